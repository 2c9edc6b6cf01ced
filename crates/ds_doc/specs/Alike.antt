-- Lists that have the same texts.
use Rattle.std.specs.Prelude.{◌≡◌, ℕ, List}
use Rattle.std.specs.List.{list_any}
use Rattle.ds_doc.specs.Places.{same_text}

-- each text is in both or in neither, how often ever
abbrev pub AreAlike : List (List ℕ) → List (List ℕ) → Type 0
AreAlike first second = (s : List ℕ) → list_any (λ t. same_text t s) first ≡ list_any (λ t. same_text t s) second
