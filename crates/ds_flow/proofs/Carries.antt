-- Certificates that a message may carry, with one more.
use Rattle.std.proofs.Common.{◌≡◌, ℕ, ◌<◌, false, List, [], ◌∷◌, ◌++◌, length, sym, ap, ◌∙◌, append_assoc, length-append, arith}
use Rattle.std.specs.Prelude.{bytes_eq}
use Rattle.std.specs.List.{AllByRecursion, IsDistinct}
use Rattle.std.proofs.lemmas.List.{append-nil}
use Rattle.ds_wire.specs.Fields.{IsBytes}
use Rattle.ds_cert.specs.declared.delegation.Delegation.{Delegation}
use Rattle.ds_cert.specs.Ranges.{DelegationFits}
use Rattle.ds_cert.specs.Spelling.{spelling_of_delegation}
use Rattle.ds_msg.specs.Ranges.{SpellsDelegation, is_among}
use Rattle.ds_msg.proofs.Distinct.{AreNew, distinct_from_new, all_new}
use Rattle.ds_flow.specs.Carried.{MayCarry}

all_push : {A : Type 0} (P : A → Type 0) (xs : List A) (x : A) → AllByRecursion P xs → P x → AllByRecursion P (xs ++ x ∷ [])
all_push P [] x all p = (p, tt)
all_push P (y ∷ xs) x all p = (all.0, all_push P xs x all.1 p)

new_push : (before certs : List (List ℕ)) (c : List ℕ) → AreNew before certs → is_among c (before ++ certs) ≡ false → AreNew before (certs ++ c ∷ [])
new_push before [] c new e = (ap (is_among c) (sym (append-nil before)) ∙ e, tt)
new_push before (x ∷ certs) c new e = (new.0, new_push (before ++ x ∷ []) certs c new.1 (ap (is_among c) (append_assoc before (x ∷ []) certs) ∙ e))

distinct_push : (certs : List (List ℕ)) (c : List ℕ) → IsDistinct bytes_eq certs → is_among c certs ≡ false → IsDistinct bytes_eq (certs ++ c ∷ [])
distinct_push certs c distinct e = (distinct_from_new [] (certs ++ c ∷ []) (new_push [] certs c (all_new certs distinct) e)).1

-- nothing
pub carries_none : MayCarry []
unfolding IsDistinct
carries_none = record { fits = record { count = omega arith; each = tt; once = tt }; bytes = tt }

-- one more delegation that isn't there
pub carries_push : (certs : List (List ℕ)) (d : Delegation) (spelled : List ℕ) → MayCarry certs → DelegationFits d → spelled ≡ spelling_of_delegation d → IsBytes spelled → is_among spelled certs ≡ false → length certs < 16
    → MayCarry (certs ++ spelled ∷ [])
carries_push certs d spelled may fits is bytes other few = record {
  fits = record {
    count = omega (arith, length-append certs (spelled ∷ []), few);
    each = all_push SpellsDelegation certs spelled may.fits.each (record { delegation = d; fits = fits; spelled = is });
    once = distinct_push certs spelled may.fits.once other;
  };
  bytes = all_push IsBytes certs spelled may.bytes bytes;
}
