-- The marks that a keeper tells: the number of every name, 0 where none was kept.
use Rattle.std.specs.Prelude.{◌≡◌, ◌≢◌, ◌⊎◌, ℕ, max, List, [], ◌∷◌, bytes_eq, position, IsSome, if◌then◌else◌, Option, Some, None}

-- where the marks are told, n is the one of that name
abbrev pub IsMark : Option (List ℕ → ℕ) → List ℕ → ℕ → Type 0
IsMark None name n = Unit {0}
IsMark (Some marks) name n = n ≡ marks name

-- every name but this one has the mark that it had
abbrev pub KeepsOthers : (List ℕ → ℕ) → List ℕ → (List ℕ → ℕ) → Type 0
KeepsOthers old name new = (other : List ℕ) → other ≢ name → new other ≡ old other

-- a raise that is done: told before, the name and the number, told after. The mark is the greater of the old one and the number
abbrev pub Raised : Option (List ℕ → ℕ) → List ℕ → ℕ → Option (List ℕ → ℕ) → Type 0
Raised None name to new = new ≡ None
Raised (Some old) name to None = Unit {0}
Raised (Some old) name to (Some new) = (new name ≡ max (old name) to) × KeepsOthers old name new

-- a raise that failed: the mark is the old one, or the greater of it and the number
abbrev pub MayBeRaised : Option (List ℕ → ℕ) → List ℕ → ℕ → Option (List ℕ → ℕ) → Type 0
MayBeRaised None name to new = new ≡ None
MayBeRaised (Some old) name to None = Unit {0}
MayBeRaised (Some old) name to (Some new) = ((new name ≡ old name) ⊎ (new name ≡ max (old name) to)) × KeepsOthers old name new

-- the mark of a name in a list of names and marks, 0 where the name isn't there
abbrev pub mark_of : List (List ℕ × ℕ) → List ℕ → ℕ
mark_of [] name = 0
mark_of (kept ∷ rest) name = if bytes_eq kept.0 name then kept.1 else mark_of rest name

-- a mark is kept for the name
abbrev pub IsKept : List (List ℕ × ℕ) → List ℕ → Type 0
IsKept marks name = IsSome (position (λ kept. bytes_eq kept.0 name) marks)
