-- Lists that a type keeps, without doubles, and the room that it took beforehand.
use Rattle.std.specs.Prelude.{◌≢◌, ℕ, ◌≤◌, List, length, All}
use Rattle.std.specs.List.{AllPairs}

-- the items in order of arrival, and whether there is room for one more: 0 or 1
pub record Stored (A : Type 0) : Type 0 where
  pub items : List A
  pub spare : ℕ

-- There are at most so many items, each is in its range, and none stands there twice.
pub record IsStore {A : Type 0} (limit : ℕ) (Range : A → Type 0) (items : List A) : Type 0 where
  pub few : length items ≤ limit
  pub ranges : All Range items
  pub once : AllPairs (λ a b. a ≢ b) items
