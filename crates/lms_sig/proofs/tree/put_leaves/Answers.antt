use Rattle.std.proofs.Common.{◌+◌, arith}
use Rattle.lms_sig.proofs.Trees.{leaf-step}
use Rattle.lms_sig.proofs.tree.put_leaves.Goals as goal

pub lanes-preserved : goal.lanes-preserved
lanes-preserved c before r from to =
    let q = c.args.first + c.lanes.l in
    let key = c.eight_keys-keys.ensures c.lanes.l (omega arith) in
    let same = rw (key, c.leaf_count-leaves.ensures) at c.leaf_hash.ensures in
    rw c.leaf_count-leaves.ensures
    (leaf-step c.args.params c.args.seed.now c.args.id.now c.lanes.nodes q c.leaf_hash.result
    (omega arith) (omega arith) (c.lanes.invariant before) same r from (omega arith))
