-- Lists as places, from 0: what stands at a place, a change at one place, and lists made of what each place gives.
use Rattle.std.specs.Prelude.{ℕ, zero, suc, List, [], ◌∷◌, ◌++◌, Option, slice_get}

-- the list with `f` done at a place; as it is where the place is past its end
abbrev pub at : {X : Type 0} → ℕ → (X → X) → List X → List X
at i f [] = []
at zero f (x ∷ xs) = f x ∷ xs
at (suc i) f (x ∷ xs) = x ∷ at i f xs

-- a relation between what stands at each place of two lists; past a list's end stands None
abbrev pub Everywhere : {X : Type 0} → (ℕ → Option X → Option X → Type 0) → List X → List X → Type 0
Everywhere R xs ys = (i : ℕ) → R i (slice_get xs i) (slice_get ys i)

-- what each of the first so many places gives, in order
abbrev pub gathered : {X : Type 0} → (ℕ → List X) → ℕ → List X
gathered f zero = []
gathered f (suc n) = gathered f n ++ f n
