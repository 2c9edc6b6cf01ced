use Rattle.std.proofs.Common.{◌≡◌, ◌++◌, take, flat_map, map}
use Rattle.ds_hosts.specs.Nodes.{node_of}
use Rattle.ds_summary.specs.Parts.{route_part}
use Rattle.ds_summary.proofs.connections.push_routes.Given as goal

abbrev pub invariant-loop-route : goal.invariant-loop-route
invariant-loop-route l = l.out.items ≡ l.initial.out.items ++ flat_map (route_part (map node_of l.nodes)) (take l.route-index l.routes)
