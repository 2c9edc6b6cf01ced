-- Who holds a category: the keys that are reached from the creator's in as many rounds as there are certificates.
use Rattle.std.specs.Prelude.{ℕ, zero, suc, Bool, List, [], ◌∷◌, ◌++◌, length, Option, Some, None, filter_map, if◌then◌else◌}
use Rattle.std.specs.List.{list_any}
use Rattle.ds_chain.specs.declared.edge.Edge.{Edge}

abbrev pub is_among : {K : Type 0} → (K → K → Bool) → List K → K → Bool
is_among same keys key = list_any (same key) keys

-- the key that a certificate adds to a set: the one that it names, where it counts and its signer is in the set
abbrev pub added_key : {K : Type 0} → (K → K → Bool) → List K → Option (Edge K) → Option K
added_key same keys None = None
added_key same keys (Some edge) = if is_among same keys edge.by then Some edge.to else None

abbrev pub round : {K : Type 0} → (K → K → Bool) → List (Option (Edge K)) → List K → List K
round same edges keys = keys ++ filter_map (added_key same keys) edges

abbrev pub rounds : {K : Type 0} → ℕ → (K → K → Bool) → List (Option (Edge K)) → List K → List K
rounds zero same edges keys = keys
rounds (suc n) same edges keys = rounds n same edges (round same edges keys)

-- whether the key is reached from the creator's in as many rounds as there are certificates
unfoldable pub holds : {K : Type 0} → (K → K → Bool) → List (Option (Edge K)) → K → K → Bool
holds same edges creator key = is_among same (rounds (length edges) same edges (creator ∷ [])) key
