use Rattle.std.proofs.Common.{◌≡◌, drop}
use Rattle.ds_sim.specs.Routing.{with_routes, lanes_from}
use Rattle.ds_sim.proofs.routing.push_lanes.Given as goal

abbrev pub invariant-loop-index : goal.invariant-loop-index
invariant-loop-index l = with_routes l.initial.routes.items (lanes_from l.place 0 l.lanes) ≡ with_routes l.routes.items (lanes_from l.place l.index (drop l.index l.lanes))
