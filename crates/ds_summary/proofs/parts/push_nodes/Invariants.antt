use Rattle.std.proofs.Common.{◌≡◌, ◌++◌, take, flat_map, map}
use Rattle.ds_hosts.specs.Nodes.{node_of}
use Rattle.ds_summary.specs.Parts.{node_part}
use Rattle.ds_summary.proofs.parts.push_nodes.Given as goal

abbrev pub invariant-loop-node : goal.invariant-loop-node
invariant-loop-node l = l.out.items ≡ l.initial.out.items ++ flat_map node_part (map node_of (take l.node-index l.nodes))
