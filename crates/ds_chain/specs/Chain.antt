-- Chains: lists of places whose edges lead from the creator's key to another, and the shortest of these.
use Rattle.std.specs.Prelude.{◌≡◌, ℕ, ◌<◌, List, [], ◌∷◌, length, Option, Some, slice_get, ◌⊎◌}
use Rattle.ds_chain.specs.declared.edge.Edge.{Edge}

-- A certificate that counts stands at the place: the one key signed it, and it names the other.
abbrev pub IsEdge : {K : Type 0} → List (Option (Edge K)) → ℕ → K → K → Type 0
IsEdge edges place by to = slice_get edges place ≡ Some (Some (record { by = by; to = to }))

-- The places lead from the one key to the other: at each stands a certificate that counts, which the key before signed.
abbrev pub LeadsTo : {K : Type 0} → List (Option (Edge K)) → K → List ℕ → K → Type 0
LeadsTo edges from [] key = from ≡ key
LeadsTo {K} edges from (place ∷ places) key = (next : K) × IsEdge edges place from next × LeadsTo edges next places key

-- Two lists as long as each other are the same, or the first is less where they first differ.
abbrev pub IsLeastByPlaces : List ℕ → List ℕ → Type 0
IsLeastByPlaces [] others = Unit {0}
IsLeastByPlaces (place ∷ places) [] = Unit {0}
IsLeastByPlaces (place ∷ places) (other ∷ others) = (place < other) ⊎ ((place ≡ other) × IsLeastByPlaces places others)

-- The first list comes no later than the other: it is shorter, or as long and no greater place by place.
abbrev pub ComesFirst : List ℕ → List ℕ → Type 0
ComesFirst places others = (length places < length others) ⊎ ((length places ≡ length others) × IsLeastByPlaces places others)

-- The places are the shortest chain from the creator to the key, and among those as short the least place by place.
pub record IsShortestChain {K : Type 0} (edges : List (Option (Edge K))) (creator : K) (places : List ℕ) (key : K) : Type 0 where
  pub leads : LeadsTo edges creator places key
  pub first : (others : List ℕ) → LeadsTo edges creator others key → ComesFirst places others
