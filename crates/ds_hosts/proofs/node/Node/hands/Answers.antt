use Rattle.std.proofs.Common.{sym, subst}
use Rattle.ds_hosts.specs.Nodes.{SpellsHands, node_of, plain_host}
use Rattle.ds_hosts.proofs.node.Node.hands.Goals as goal

pub returns-in-Running : goal.returns-in-Running
returns-in-Running c = subst (λ n. SpellsHands (plain_host (node_of n))) (sym c.in-Running.is) c.hands_of.ensures
