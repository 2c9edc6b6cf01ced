use Rattle.std.proofs.Common.{◌≡◌, ◌∙◌, arith, length-set, refl}
use Rattle.lms_sig.proofs.Eights.{filled}
use Rattle.lms_sig.proofs.lanes.whole_order.Goals as goal

pub places-preserved : goal.places-preserved
places-preserved c = (
  length-set c.places.order c.places.k _ ∙ c.places.invariant.0,
  filled (λ j v. v ≡ j) c.places.order c.places.k 72 _ 0 c.places.invariant.0 (omega arith) c.places.invariant.1 refl,
)
