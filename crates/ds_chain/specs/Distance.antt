-- How many edges the shortest chain to a key has, key by key, and what is known of this after so many levels of the search.
use Rattle.std.specs.Prelude.{◌≡◌, ℕ, ◌<◌, ◌≤◌, List, length, All, Option, Some, None, IfSome, slice_index_or}
use Rattle.ds_chain.specs.declared.edge.Edge.{Edge}
use Rattle.ds_chain.specs.Chain.{IsEdge, LeadsTo}

-- each key that a edge names is one of so many numbers
abbrev pub AreBelow : ℕ → List (Option (Edge ℕ)) → Type 0
AreBelow count edges = All (λ entry. IfSome entry (λ edge. (edge.by < count) × (edge.to < count))) edges

-- each chain from one key to another has more edges than n
abbrev pub IsFarther : {K : Type 0} → List (Option (Edge K)) → ℕ → K → K → Type 0
IsFarther edges n by to = (others : List ℕ) → LeadsTo edges by others to → n < length others

-- the shortest chain from one key to another has n edges
pub record IsDistance (edges : List (Option (Edge ℕ))) (by to n : ℕ) : Type 0 where
  pub reached : (places : List ℕ) × LeadsTo edges by places to × (length places ≡ n)
  pub least : (others : List ℕ) → LeadsTo edges by others to → n ≤ length others

-- The distance is known where it is at most the level.
abbrev pub IsKnown : List (Option (Edge ℕ)) → ℕ → ℕ → ℕ → Option ℕ → Type 0
IsKnown edges key level by None = IsFarther edges level by key
IsKnown edges key level by (Some n) = (n ≤ level) × IsDistance edges by key n

abbrev pub AreKnown : List (Option (Edge ℕ)) → ℕ → ℕ → List (Option ℕ) → Type 0
AreKnown edges key level distances = (by : ℕ) → IsKnown edges key level by (slice_index_or distances by None)

-- The distance is known where there is a chain.
abbrev pub IsSettled : List (Option (Edge ℕ)) → ℕ → ℕ → Option ℕ → Type 0
IsSettled edges key by None = (places : List ℕ) → LeadsTo edges by places key → ⊥
IsSettled edges key by (Some n) = IsDistance edges by key n

abbrev pub AreSettled : List (Option (Edge ℕ)) → ℕ → List (Option ℕ) → Type 0
AreSettled edges key distances = (by : ℕ) → IsSettled edges key by (slice_index_or distances by None)

-- the edge leads to a key at the level from one whose distance isn't known
pub record IsNew (distances : List (Option ℕ)) (edge : Edge ℕ) (level : ℕ) : Type 0 where
  pub to : slice_index_or distances edge.to None ≡ Some level
  pub by : slice_index_or distances edge.by None ≡ None

-- the edge leads from the key to one at a distance
pub record IsNearer (distances : List (Option ℕ)) (by left : ℕ) (edge : Edge ℕ) : Type 0 where
  pub to : slice_index_or distances edge.to None ≡ Some left
  pub signer : edge.by ≡ by

-- at the place stands the first edge from the key to one at a distance
pub record IsFirstNearer (edges : List (Option (Edge ℕ))) (distances : List (Option ℕ)) (by left place next : ℕ) : Type 0 where
  pub edge : IsEdge edges place by next
  pub left_over : slice_index_or distances next None ≡ Some left
  pub first : (sooner other : ℕ) → sooner < place → IsEdge edges sooner by other → slice_index_or distances other None ≡ Some left → ⊥
