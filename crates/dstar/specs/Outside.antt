-- What the calls that read the whole input and write the whole text did to the outside.
use Rattle.std.specs.Prelude.{◌≡◌, ℕ, ◌<◌, ◌≤◌, List, length, take, Option, ◌++◌}
use Rattle.ds_base.specs.Counts.{Rose, Told, Appended}
use Rattle.dstar.specs.declared.input.InputFault.{InputFault}
use Rattle.dstar.specs.declared.input.InputFault.TheVariants.{ReadFault, TooLong, NoMemory}

-- the most bytes that an input may have
abbrev pub input_limit : ℕ
input_limit = 16777216

-- Why the input was not read to its end: the source failed, or more bytes were read than an input may have, or memory ran out.
-- The source told and counted before and after.
abbrev pub Unread : ℕ → InputFault → Option (List ℕ) → Option (List ℕ) → ℕ → ℕ → Type 0
Unread limit ReadFault told left faults faults' = Rose faults faults'
Unread limit TooLong told left faults faults' = (bytes : List ℕ) × (limit < length bytes) × Told told bytes left
Unread limit NoMemory told left faults faults' = Unit {0}

-- some front of the text was written
abbrev pub WroteFront : Option (List ℕ) → List ℕ → Option (List ℕ) → Type 0
WroteFront written text after = (count : ℕ) × (count ≤ length text) × Appended written (take count text) after

-- one call's bytes, which went to the end of what was read
pub record Grew (old new : List ℕ) (told left : Option (List ℕ)) (count : ℕ) : Type 0 where
  pub piece : List ℕ
  pub items : new ≡ old ++ piece
  pub size : length piece ≡ count
  pub moved : Told told piece left

-- the source failed, or memory ran out
abbrev pub IsFault : InputFault → ℕ → ℕ → Type 0
IsFault ReadFault faults faults' = Rose faults faults'
IsFault TooLong faults faults' = ⊥
IsFault NoMemory faults faults' = Unit {0}
