-- What holds of the spellings of each kind.
use Rattle.std.specs.Prelude.{◌≡◌, ℕ, List, ◌++◌, Result, Ok}
use Rattle.ds_wire.specs.Fields.{IsBytes}

-- what a reader took from the front
pub record Takes (bytes text rest : List ℕ) : Type 0 where
  pub parts : bytes ≡ text ++ rest
  pub rest_fits : IsBytes rest

-- What is read is spelled so, each byte of it, and what is spelled so is read again, whatever follows.
pub record IsSpelling {A E : Type 0} (Fits : A → Type 0) (spelling : A → List ℕ) (reading : List ℕ → Result (A × List ℕ) E) : Type 0 where
  pub spelled_so : (bytes : List ℕ) (x : A) (rest : List ℕ) → IsBytes bytes → reading bytes ≡ Ok (x, rest) → Takes bytes (spelling x) rest × Fits x
  pub read_again : (x : A) (rest : List ℕ) → Fits x → reading (spelling x ++ rest) ≡ Ok (x, rest)

-- Each value has one spelling, and no spelling is a proper prefix of another: where two stand in front of one list of
-- bytes, the values are equal, and so is what follows.
abbrev pub IsPrefixFree : {A : Type 0} → (A → Type 0) → (A → List ℕ) → Type 0
IsPrefixFree {A} Fits spelling = (x y : A) (rest other : List ℕ) → Fits x → Fits y → spelling x ++ rest ≡ spelling y ++ other → (x ≡ y) × (rest ≡ other)
