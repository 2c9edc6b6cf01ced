use Rattle.std.proofs.Common.{arith, refl}
use Rattle.lms_sig.proofs.Eights.{zero_at}
use Rattle.lms_sig.proofs.one_time.tops.Goals as goal

pub places-init : goal.places-init
places-init c = (refl, (λ j below. absurd (omega arith), λ j past. zero_at 72 j))
