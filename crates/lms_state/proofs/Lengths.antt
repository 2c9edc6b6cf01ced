-- How long a signature is.
use Rattle.std.proofs.Common.{◌≡◌, ℕ, ◌≤◌, List, length, arith}
use Rattle.lms_sig.specs.Parameters.{signature_length}
use Rattle.lms_sig.specs.declared.params.LmsType.{LmsType}
use Rattle.lms_sig.specs.declared.params.LmsType.TheVariants.{H5, H10}
use Rattle.lms_sig.specs.declared.params.OtsType.{OtsType}
use Rattle.lms_sig.specs.declared.params.OtsType.TheVariants.{W4, W8}
use Rattle.lms_sig.proofs.Lengths.{length-signature}
use Rattle.lms_state.specs.Signers.{Signing, next_signature}

longest : (lms : LmsType) (ots : OtsType) → signature_length (record { lms = lms; ots = ots }) ≤ 2508
longest H5 W4 = omega arith
longest H5 W8 = omega arith
longest H10 W4 = omega arith
longest H10 W8 = omega arith

pub short_signature : (made : List ℕ) (s : Signing) (message : List ℕ) → made ≡ next_signature s message → length made ≤ 2508
short_signature made s message is = rw (is, length-signature s.key.params s.key.seed s.key.id s.next message) (longest s.key.params.lms s.key.params.ots)
