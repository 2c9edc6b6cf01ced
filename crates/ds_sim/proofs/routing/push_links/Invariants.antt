use Rattle.std.proofs.Common.{◌≡◌, drop, map}
use Rattle.ds_sim.specs.Routing.{with_routes, link_plan}
use Rattle.ds_sim.proofs.routing.push_links.Given as goal

abbrev pub invariant-loop-host : goal.invariant-loop-host
invariant-loop-host l = with_routes l.initial.routes.items (map link_plan l.links) ≡ with_routes l.routes.items (map link_plan (drop l.host-index l.links))
