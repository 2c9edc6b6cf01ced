-- Two lists after a change at a place of one of them, or of both.
use Rattle.std.proofs.Common.{◌≢◌, ℕ, List, Option, slice_get, option_map, sym, subst, subst₂}
use Rattle.ds_model.specs.Lists.{at, Everywhere}
use Rattle.ds_model.proofs.Places.{at_here, at_other, at_each}

-- both lists changed at one place
pub both_at : {X : Type 0} (R S : ℕ → Option X → Option X → Type 0) (i : ℕ) (f g : X → X) (xs ys : List X) →
    Everywhere R xs ys →
    ((j : ℕ) → j ≢ i → R j (slice_get xs j) (slice_get ys j) → S j (slice_get xs j) (slice_get ys j)) →
    (R i (slice_get xs i) (slice_get ys i) → S i (option_map f (slice_get xs i)) (option_map g (slice_get ys i))) →
    Everywhere S (at i f xs) (at i g ys)
both_at R S i f g xs ys all' others here =
    at_each (λ j. S j (slice_get (at i f xs) j) (slice_get (at i g ys) j)) i
    (subst₂ (λ a b. S i a b) (sym (at_here i f xs)) (sym (at_here i g ys)) (here (all' i)))
    (λ j n. subst₂ (λ a b. S j a b) (sym (at_other i j f xs n)) (sym (at_other i j g ys n)) (others j n (all' j)))

-- one list changed at one place
pub one_at : {X : Type 0} (S : ℕ → Option X → Option X → Type 0) (i : ℕ) (g : X → X) (xs : List X) →
    ((j : ℕ) → j ≢ i → S j (slice_get xs j) (slice_get xs j)) →
    S i (slice_get xs i) (option_map g (slice_get xs i)) →
    Everywhere S xs (at i g xs)
one_at S i g xs others here =
    at_each (λ j. S j (slice_get xs j) (slice_get (at i g xs) j)) i
    (subst (λ b. S i (slice_get xs i) b) (sym (at_here i g xs)) here)
    (λ j n. subst (λ b. S j (slice_get xs j) b) (sym (at_other i j g xs n)) (others j n))
