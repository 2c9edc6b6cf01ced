use Rattle.std.proofs.Common.{◌<◌, Option, length, map, option_map, sym, ap, ◌∙◌, arith}
use Rattle.std.proofs.lemmas.Option.{slice_get-map}
use Rattle.ds_model.specs.World.{Host}
use Rattle.ds_model.specs.Step.{stream_from, worker_at}
use Rattle.ds_exporter.proofs.Places.{stands_now}
use Rattle.ds_hosts.specs.Nodes.{node_of, plain_host}
use Rattle.ds_world.proofs.reading.lane_at.Goals as goal

pub returns : goal.returns
returns c =
    let v = c.args.nodes.now in
    let within : c.args.host < length v.items = omega (arith, c.if-host-len.false, c.len.ensures, v.ok) in
    let there = stands_now node_of v.items c.args.host c.index.result.now within c.index.ensures in
    c.stream.ensures ∙ sym (ap (λ (o : Option Host). stream_from (worker_at o c.args.lane)) (slice_get-map plain_host (map node_of v.items) c.args.host ∙ ap (option_map plain_host) there))
