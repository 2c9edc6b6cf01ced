use Rattle.std.proofs.Common.{arith}
use Rattle.lms_sig.proofs.Trees.{inner-step}
use Rattle.lms_sig.proofs.tree.fill_inner.Goals as goal

pub inner-preserved : goal.inner-preserved
inner-preserved c = (
  omega arith,
  λ params seed count start.
      inner-step params seed c.args.id.now c.inner.nodes _ c.inner.node c.inner_hash.result
      (omega arith) (omega arith) (omega arith) (omega arith) (c.inner.invariant.1 params seed count start) c.inner_hash.ensures,
)
