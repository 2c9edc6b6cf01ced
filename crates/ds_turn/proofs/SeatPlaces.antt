-- What stands at a place of a host's lists.
use Rattle.std.proofs.Common.{◌≡◌, ℕ, zero, suc, ◌<◌, true, Bool, List, [], ◌∷◌, Some, length, map, slice_get, refl, sym, ap, ◌∙◌, subst, arith}
use Rattle.std.specs.Prelude.{slice_index_or, position}
use Rattle.std.proofs.lemmas.List.{length-map}
use Rattle.std.proofs.lemmas.List.Quantifiers.{position-Some}

-- what stands at a place that is there, seen through a function
stands : {X Y : Type 0} (g : X → Y) (xs : List X) (i : ℕ) (d : X) → i < length xs → slice_get (map g xs) i ≡ Some (g (slice_index_or xs i d))
stands g [] i d w = absurd (omega (arith, w))
stands g (x ∷ xs) zero d w = refl
stands g (x ∷ xs) (suc i) d w = stands g xs i d (omega (arith, w))

-- what is read there stands there
pub stands_now : {X Y : Type 0} (g : X → Y) (xs : List X) (i : ℕ) (now : X) → i < length (map g xs) → now ≡ slice_index_or xs i now → slice_get (map g xs) i ≡ Some (g now)
stands_now g xs i now w e = stands g xs i now (subst (λ (n : ℕ). i < n) (length-map xs g) w) ∙ ap (λ x. Some (g x)) (sym e)

pub there_now : {X : Type 0} (xs : List X) (i : ℕ) (now : X) → i < length xs → now ≡ slice_index_or xs i now → slice_get xs i ≡ Some now
there_now [] i now w e = absurd (omega (arith, w))
there_now (x ∷ xs) zero now w e = ap (λ y. Some y) (sym e)
there_now (x ∷ xs) (suc i) now w e = there_now xs i now (omega (arith, w)) e

-- what is read at the first place that passes a test passes it
pub first_passes : {X : Type 0} (p : X → Bool) (xs : List X) (i : ℕ) (now : X) → position p xs ≡ Some i → now ≡ slice_index_or xs i now → p now ≡ true
first_passes p xs i now found e = ap p e ∙ (position-Some p xs i now found).1
