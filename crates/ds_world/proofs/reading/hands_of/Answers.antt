use Rattle.std.proofs.Common.{◌≡◌, ◌∙◌, List, subst}
use Rattle.std.specs.List.{All}
use Rattle.std.proofs.lemmas.List.{take_all}
use Rattle.std.proofs.lemmas.List.Elements.{All-more, recursion_from_All}
use Rattle.ds_hosts.specs.declared.node.Node.{Node}
use Rattle.ds_hosts.specs.Nodes.{SpellsHands, node_of, plain_host}
use Rattle.ds_world.proofs.reading.hands_of.Goals as goal

pub returns : goal.returns
returns c =
    let whole = take_all c.loop-node.node-index c.as_slice-all.result.now c.loop-node-test.false ∙ c.as_slice-all.ensures.value in
    recursion_from_All (λ (n : Node). SpellsHands (plain_host (node_of n))) c.args.nodes.now.items
    (subst (λ (ns : List Node). All (λ (n : Node). SpellsHands (plain_host (node_of n))) ns) whole c.loop-node.invariant)

pub loop-node-preserved : goal.loop-node-preserved
loop-node-preserved c =
    All-more (λ (n : Node). SpellsHands (plain_host (node_of n))) c.as_slice-all.result.now c.loop-node.node-index c.node-item.result c.loop-node-test.true c.loop-node.invariant
    (subst (λ (n : Node). SpellsHands (plain_host (node_of n))) c.node-item.is c.hands.ensures)
