-- Sets of categories that have what texts name.
use Rattle.std.specs.Prelude.{◌≡◌, ℕ, List, Bool, true, ◌||◌, nat_le, length}
use Rattle.std.specs.List.{list_any}
use Rattle.ds_plan.specs.Documents.{stood}
use Rattle.ds_doc.specs.declared.draft.Placed.{Placed}
use Rattle.ds_doc.specs.declared.draft.CategoryName.{CategoryName}
use Rattle.ds_doc.specs.Places.{same_text}
use Rattle.ds_doc.specs.Draft.{category_named, same_value}

-- whether one category more leaves a set as it is: it is there, or the set is full
abbrev pub is_counted : ℕ → List (Placed CategoryName) → Placed CategoryName → Bool
is_counted most set c = stood same_value set c || nat_le most (length set)

-- so it is with the category that each of these texts names
pub record AreCounted (most : ℕ) (names : List (List ℕ)) (set : List (Placed CategoryName)) (texts : List (List ℕ)) : Type 0 where
  pub each : (s : List ℕ) (at : ℕ) → list_any (λ t. same_text t s) texts ≡ true
      → is_counted most set (record { at = at; value = category_named names s }) ≡ true
