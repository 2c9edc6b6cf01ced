-- A history that is one entry longer.
use Rattle.std.proofs.Common.{◌≡◌, ℕ, ◌<◌, List, [], ◌∷◌, ◌++◌, true, false, ◌&&◌, Option, Some, None, refl, arith}
use Rattle.std.specs.Prelude.{nat_lt}
use Rattle.std.proofs.lemmas.Bool.Decides.{nat_tests}
use Rattle.ds_script.specs.Replay.{onward, replay, last_of, rises}

pub replay-push : {S E : Type 0} (step : S → E → Option S) (s : S) (es : List E) (e : E) → replay step s (es ++ e ∷ []) ≡ onward (replay step s es) (λ t. step t e)
replay-push step s [] e = one (step s e)
  where
    one : {S : Type 0} (o : Option S) → onward o (λ t. Some t) ≡ o
    one None = refl
    one (Some t) = refl
replay-push step s (x ∷ es) e = elim (step s x) as (λ o. onward o (λ t. replay step t (es ++ e ∷ [])) ≡ onward (onward o (λ t. replay step t es)) (λ t. step t e)) [ None ↦ refl | Some t ↦ replay-push step t es e ]

pub last_of-push : {E : Type 0} (stamp : E → ℕ) (base : ℕ) (es : List E) (e : E) → last_of stamp base (es ++ e ∷ []) ≡ stamp e
last_of-push stamp base [] e = refl
last_of-push stamp base (x ∷ es) e = last_of-push stamp (stamp x) es e

pub rises-push : {E : Type 0} (stamp : E → ℕ) (base : ℕ) (es : List E) (e : E) → rises stamp base es ≡ true → last_of stamp base es < stamp e → rises stamp base (es ++ e ∷ []) ≡ true
rises-push stamp base [] e up above = grind (arith, nat_tests)
rises-push stamp base (x ∷ es) e up above =
    elim (nat_lt base (stamp x)) as (λ b. (b && rises stamp (stamp x) es) ≡ true → (b && rises stamp (stamp x) (es ++ e ∷ [])) ≡ true) [ true ↦ λ h. rises-push stamp (stamp x) es e h above | false ↦ λ h. h ] up

-- ---- two histories one after the other

pub replay-append : {S E : Type 0} (step : S → E → Option S) (s : S) (es fs : List E) → replay step s (es ++ fs) ≡ onward (replay step s es) (λ t. replay step t fs)
replay-append step s [] fs = refl
replay-append step s (e ∷ es) fs = elim (step s e) as (λ o. onward o (λ t. replay step t (es ++ fs)) ≡ onward (onward o (λ t. replay step t es)) (λ t. replay step t fs)) [ None ↦ refl | Some t ↦ replay-append step t es fs ]

pub last_of-append : {E : Type 0} (stamp : E → ℕ) (base : ℕ) (es fs : List E) → last_of stamp base (es ++ fs) ≡ last_of stamp (last_of stamp base es) fs
last_of-append stamp base [] fs = refl
last_of-append stamp base (e ∷ es) fs = last_of-append stamp (stamp e) es fs

pub rises-append : {E : Type 0} (stamp : E → ℕ) (base : ℕ) (es fs : List E) → rises stamp base (es ++ fs) ≡ (rises stamp base es && rises stamp (last_of stamp base es) fs)
rises-append stamp base [] fs = refl
rises-append stamp base (e ∷ es) fs = elim (nat_lt base (stamp e)) as (λ b. (b && rises stamp (stamp e) (es ++ fs)) ≡ ((b && rises stamp (stamp e) es) && rises stamp (last_of stamp (stamp e) es) fs)) [ true ↦ rises-append stamp (stamp e) es fs | false ↦ refl ]
