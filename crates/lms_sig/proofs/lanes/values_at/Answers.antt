use Rattle.std.proofs.Common.{◌≡◌, ◌∙◌, [], arith, length-set, refl, slice_index, slice_index_or}
use Rattle.lms_sig.proofs.Eights.{filled}
use Rattle.lms_sig.proofs.lanes.values_at.Goals as goal

pub lanes-preserved : goal.lanes-preserved
lanes-preserved c = (
  length-set c.lanes.out c.lanes.l _ ∙ c.lanes.invariant.0,
  filled (λ j v. v ≡ slice_index_or c.args.values.now (slice_index c.args.chains.now j) []) c.lanes.out c.lanes.l 8 _ [] c.lanes.invariant.0 (omega arith) c.lanes.invariant.1 refl,
)
