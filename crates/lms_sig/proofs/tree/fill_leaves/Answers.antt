use Rattle.std.proofs.Common.{◌*◌, arith}
use Rattle.lms_sig.proofs.Trees.{leaves-all, whole_eights}
use Rattle.lms_sig.proofs.tree.fill_leaves.Goals as goal

pub returns : goal.returns
returns c =
    let whole = whole_eights c.args.params.lms in
    leaves-all c.args.params c.args.seed.now c.args.id.now c.eights.nodes (8 * c.eights.group) (omega (arith, whole, c.leaf_count-group-end.ensures)) c.eights.invariant
