-- A table grows at its end alone: what had a name keeps it, and what had a number keeps it.
use Rattle.std.specs.Prelude.{◌≡◌, ℕ, List, ◌∷◌, ◌++◌, [], IsTrue}
use Rattle.ds_label.specs.declared.category.PubKey.{PubKey}
use Rattle.ds_label.specs.declared.category.Category.{Category}
use Rattle.ds_model.specs.Mapping.{is_known, to_number, to_name, with_row}
use Rattle.ds_map.specs.Labels.{has_name, named, have_names}

-- of a table that got more rows
pub record IsGrown (here : PubKey) (rows later : List Category) : Type 0 where
  pub name : (n : ℕ) → IsTrue (has_name here rows n) → to_name here later n ≡ to_name here rows n
  pub number : (c : Category) → IsTrue (is_known here rows c) → to_number here later c ≡ to_number here rows c
  pub label : (label : List ℕ) → IsTrue (have_names here rows (label ∷ [])) → named here later label ≡ named here rows label
  pub labels : (labels : List (List ℕ)) → IsTrue (have_names here rows labels) → IsTrue (have_names here later labels)

-- so it is with more rows at the end, and so when a category is mapped
pub record GrowsSo : Type 0 where
  pub more : (here : PubKey) (rows more : List Category) → IsGrown here rows (rows ++ more)
  pub mapped : (here : PubKey) (rows : List Category) (c : Category) → IsGrown here rows (with_row here c rows)
