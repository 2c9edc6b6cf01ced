-- A host's table of foreign categories.
use Rattle.std.specs.Prelude.{ℕ, ◌≤◌, ◌^◌, Bool, true, not, ◌&&◌, List, [], ◌∷◌, length, nat_le, IsTrue}
use Rattle.std.specs.List.{list_all}
use Rattle.ds_label.specs.declared.category.PubKey.{PubKey}
use Rattle.ds_label.specs.declared.category.Category.{Category}
use Rattle.ds_label.specs.Flow.{has}
use Rattle.ds_label.specs.Names.{by_name}
use Rattle.ds_model.specs.Keys.{same_key}
use Rattle.ds_model.specs.Mapping.{row_limit}

-- the host's key, its rows, and 1 where there is room for one more row
pub record Table : Type 0 where
  pub here : PubKey
  pub rows : List Category
  pub spare : ℕ

-- no category stands twice
abbrev pub are_distinct : List Category → Bool
are_distinct [] = true
are_distinct (c ∷ rows) = not (has by_name c rows) && are_distinct rows

-- the rows of a table of the host with this key: few enough, none of them its own, and none twice
pub record IsTable (here : PubKey) (rows : List Category) : Type 0 where
  pub few : length rows ≤ 1024
  pub foreign : IsTrue (list_all (λ c. not (same_key c.creator here)) rows)
  pub once : IsTrue (are_distinct rows)

-- made by this host, with a number that no home category has
abbrev pub is_stray : PubKey → Category → Bool
is_stray here c = same_key c.creator here && nat_le (2 ^ 62) c.number

-- a foreign category without a row, and no row is left for it
abbrev pub overflows_table : PubKey → List Category → Category → Bool
overflows_table here rows c = not (same_key c.creator here) && (not (has by_name c rows) && nat_le row_limit (length rows))
