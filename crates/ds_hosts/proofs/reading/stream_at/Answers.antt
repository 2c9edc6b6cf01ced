use Rattle.std.proofs.Common.{sym, ap, Some, None, ◌∙◌}
use Rattle.ds_model.specs.Step.{stream_from}
use Rattle.ds_hosts.proofs.Places.{past_at, read_at, stream_there}
use Rattle.ds_hosts.proofs.reading.stream_at.Goals as goal

pub returns-in-Some : goal.returns-in-Some
returns-in-Some c =
    let there = read_at c.args.lanes.now.items c.deref.result.now c.args.place c.in-Some.lane.now c.deref.ensures.value c.in-Some.ensures.lookup.0 c.in-Some.ensures.lookup.1 in
    c.stream.ensures ∙ sym (ap stream_from (stream_there c.args.lanes.now.items c.args.place (Some c.in-Some.lane.now) there))

pub returns-in-None : goal.returns-in-None
returns-in-None c =
    let none = past_at c.args.lanes.now.items c.deref.result.now c.args.place c.deref.ensures.value c.in-None.ensures.lookup.0 in
    sym (ap stream_from (stream_there c.args.lanes.now.items c.args.place None none))
