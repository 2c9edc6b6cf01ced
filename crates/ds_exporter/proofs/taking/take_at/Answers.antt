use Rattle.std.proofs.Common.{map}
use Rattle.ds_exporter.specs.HostStates.{box_of}
use Rattle.ds_exporter.specs.Stamping.{IsBoxBefore}
use Rattle.ds_exporter.proofs.Places.{all_get, stands_now}
use Rattle.ds_exporter.proofs.taking.take_at.Goals as goal

pub take-requires-clause-later : goal.take-requires-clause-later
take-requires-clause-later c =
    all_get (IsBoxBefore c.args.stamp) (map box_of c.args.boxes.now.items) c.args.place (box_of c.index_mut.result.now) c.requires.later
    (stands_now box_of c.args.boxes.now.items c.args.place c.index_mut.result.now c.requires.place c.index_mut.ensures.value)
