use Rattle.std.proofs.Common.{◌≡◌, ◌∙◌, arith, length-set, refl, slice_index}
use Rattle.lms_sig.proofs.Eights.{filled}
use Rattle.lms_sig.proofs.lanes.bytes_at.Goals as goal

pub lanes-preserved : goal.lanes-preserved
lanes-preserved c = (
  length-set c.lanes.out c.lanes.l _ ∙ c.lanes.invariant.0,
  filled (λ j v. v ≡ slice_index c.args.bytes.now (slice_index c.args.chains.now j)) c.lanes.out c.lanes.l 8 _ 0 c.lanes.invariant.0 (omega arith) c.lanes.invariant.1 refl,
)
