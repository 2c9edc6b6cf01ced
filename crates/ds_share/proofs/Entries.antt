-- The entries of histories, spelled.
use Rattle.std.proofs.Common.{◌≡◌, ℕ, true, false, Bool, List, [], ◌∷◌, map, refl, arith}
use Rattle.std.specs.Prelude.{◌&&◌, nat_lt}
use Rattle.std.proofs.lemmas.Bool.Decides.{nat_tests}
use Rattle.ds_script.specs.Replay.{rises}
use Rattle.ds_share.specs.declared.entry.SpelledEntry.{SpelledEntry}
use Rattle.ds_share.specs.Entries.{AreRising, stamp_of}

-- what rises from a stamp on rises from 0 on, spelled or not
from_zero : (base : ℕ) (b : Bool) (stamp : ℕ) → (nat_lt base stamp && b) ≡ true → (nat_lt 0 stamp && b) ≡ true
from_zero base true stamp e = grind (arith, nat_tests)
from_zero base false stamp e = grind (arith, nat_tests)

spelled_rising : {E : Type 0} (spelled : E → SpelledEntry) (stamp : E → ℕ) → ((e : E) → stamp_of (spelled e) ≡ stamp e) → (base : ℕ) (es : List E)
    → rises stamp base es ≡ true → rises stamp_of base (map spelled es) ≡ true
spelled_rising spelled stamp same base [] up = refl
spelled_rising spelled stamp same base (e ∷ es) up =
    rw (same e) (elim (nat_lt base (stamp e)) as (λ b. (b && rises stamp (stamp e) es) ≡ true → (b && rises stamp_of (stamp e) (map spelled es)) ≡ true)
    [ true ↦ λ h. spelled_rising spelled stamp same (stamp e) es h | false ↦ λ h. h ] up)

pub are_rising : {E : Type 0} (spelled : E → SpelledEntry) (stamp : E → ℕ) → ((e : E) → stamp_of (spelled e) ≡ stamp e) → (base : ℕ) (es : List E) (made : List SpelledEntry)
    → rises stamp base es ≡ true → made ≡ map spelled es → AreRising made
are_rising spelled stamp same base [] made up is = rw is refl
are_rising spelled stamp same base (e ∷ es) made up is =
    rw is (from_zero base _ (stamp_of (spelled e)) (spelled_rising spelled stamp same base (e ∷ es) up))
