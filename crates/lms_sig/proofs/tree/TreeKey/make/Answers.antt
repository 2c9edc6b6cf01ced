use Rattle.std.proofs.Common.{◌≡◌, length, arith}
use Rattle.std.proofs.lemmas.List.{take_at}
use Rattle.lms_sig.specs.TreeNodes.{HoldsFrom}
use Rattle.lms_sig.proofs.tree.TreeKey.make.Goals as goal

pub invariant_of-result : goal.invariant_of-result
invariant_of-result c =
    let leaves_size : length c.fill_leaves.new.nodes ≡ c.in_ok-nodes.nodes.len = omega (arith, c.deref_mut.ensures.len) in
    let inner_size : length c.fill_inner.new.nodes ≡ c.in_ok-nodes.nodes.len = omega (arith, c.deref_mut-2.ensures.len) in
    let leaves : HoldsFrom c.args.params c.args.seed c.args.id c.deref_mut-2.result.now c.leaf_count-leaves.result =
    rw (c.deref_mut-2.ensures.value, take_at c.fill_leaves.new.nodes _ _ leaves_size, c.leaf_count-leaves.ensures) c.fill_leaves.ensures in
    rw (take_at c.fill_inner.new.nodes _ _ inner_size) (record {
      size = omega (arith, c.in_ok-nodes.ensures.len);
      holds = c.fill_inner.ensures c.args.params c.args.seed c.leaf_count-leaves.ensures leaves;
    })
