-- How the file of a mark spells it.
use Rattle.std.specs.Prelude.{◌≡◌, ◌⊎◌, ℕ, List, [], ◌∷◌, ◌++◌, decimal}

-- the content is the number in decimal digits, with or without a line feed after them
abbrev pub Spells : List ℕ → ℕ → Type 0
Spells content mark = (content ≡ decimal mark) ⊎ (content ≡ decimal mark ++ 10 ∷ [])
