use Rattle.std.proofs.Common.{take}
use Rattle.std.specs.List.{All}
use Rattle.ds_hosts.specs.declared.node.Node.{Node}
use Rattle.ds_hosts.specs.Nodes.{SpellsHands, node_of, plain_host}
use Rattle.ds_world.proofs.reading.hands_of.Given as goal

abbrev pub invariant-loop-node : goal.invariant-loop-node
invariant-loop-node l = All (λ (n : Node). SpellsHands (plain_host (node_of n))) (take l.node-index l.all)
