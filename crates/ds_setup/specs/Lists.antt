-- Lists made by places.
use Rattle.std.specs.Prelude.{ℕ, suc, List, [], ◌∷◌, ◌++◌}

-- what f makes of each thing with its place, from 0
abbrev pub each : {X Y : Type 0} → (ℕ → X → Y) → List X → List Y
each f [] = []
each f (x ∷ xs) = f 0 x ∷ each (λ place. f (suc place)) xs

-- lists, one behind the other
abbrev pub joined : {X : Type 0} → List (List X) → List X
joined [] = []
joined (xs ∷ xss) = xs ++ joined xss
