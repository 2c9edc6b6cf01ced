-- Counts that never fall, and what a call does to the bytes that an object of the outside tells.
use Rattle.std.specs.Prelude.{◌≡◌, ℕ, ◌≤◌, ◌+◌, ◌-◌, ◌^◌, min, List, [], ◌++◌, length, take, Option, Some, None}

-- the count went up, or stands at its last value
abbrev pub Rose : ℕ → ℕ → Type 0
Rose old new = min (old + 1) (2 ^ 64 - 1) ≤ new

-- the bytes that are left: told before, what was taken, told after
abbrev pub Told : Option (List ℕ) → List ℕ → Option (List ℕ) → Type 0
Told None moved new = new ≡ None
Told (Some bytes) moved None = ⊥
Told (Some bytes) moved (Some left) = bytes ≡ moved ++ left

-- where the bytes that are left are told, there is none
abbrev pub NoneLeft : Option (List ℕ) → Type 0
NoneLeft None = Unit {0}
NoneLeft (Some bytes) = bytes ≡ []

-- the bytes that were written: told before, what was appended, told after
abbrev pub Appended : Option (List ℕ) → List ℕ → Option (List ℕ) → Type 0
Appended None moved new = new ≡ None
Appended (Some bytes) moved None = ⊥
Appended (Some bytes) moved (Some all) = all ≡ bytes ++ moved

-- the next n bytes came into the front of a room of that size, and 0 only at an end
pub record Took (old new : Option (List ℕ)) (size : ℕ) (room : List ℕ) (n : ℕ) (Ended : Type 0) : Type 0 where
  pub fits : n ≤ size
  pub told : Told old (take n room) new
  pub ended : n ≡ 0 → Ended × NoneLeft old × NoneLeft new

-- the first n bytes of the piece were appended, and n is at least 1
pub record Wrote (old new : Option (List ℕ)) (piece : List ℕ) (n : ℕ) : Type 0 where
  pub some : 1 ≤ n
  pub fits : n ≤ length piece
  pub told : Appended old (take n piece) new
