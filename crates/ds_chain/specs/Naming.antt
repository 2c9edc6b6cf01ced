-- Keys that go by numbers, each key by one.
use Rattle.std.specs.Prelude.{◌≡◌, ℕ, ◌<◌, ◌≤◌, List, [], length, Option, map, option_map, slice_index_or}
use Rattle.ds_chain.specs.declared.edge.Edge.{Edge}
use Rattle.ds_label.specs.declared.category.PubKey.{PubKey}
use Rattle.ds_chain.specs.Distance.{AreBelow}

-- the edge between the keys that go by the numbers
abbrev pub named_hop : {K : Type 0} → (ℕ → K) → Option (Edge ℕ) → Option (Edge K)
named_hop name entry = option_map (λ edge. record { by = name edge.by; to = name edge.to }) entry

-- No two numbers below the count name the same key.
abbrev pub IsNaming : {K : Type 0} → ℕ → (ℕ → K) → Type 0
IsNaming count name = (a b : ℕ) → a < count → b < count → name a ≡ name b → a ≡ b

-- the key that goes by the number
abbrev pub key_of : List PubKey → ℕ → PubKey
key_of keys n = slice_index_or keys n (record { 0 = [] })

-- the certificates whose keys go by their places in the list
abbrev pub hops_of : List PubKey → List (Option (Edge ℕ)) → List (Option (Edge PubKey))
hops_of keys edges = map (named_hop (key_of keys)) edges

pub record AreNumbered (keys : List PubKey) (edges : List (Option (Edge ℕ))) : Type 0 where
  pub naming : IsNaming (length keys) (key_of keys)
  pub below : AreBelow (length keys) edges

-- the key's number is n, and the other keys keep theirs
pub record HasNumber (old new : List PubKey) (key : PubKey) (n : ℕ) : Type 0 where
  pub within : n < length new
  pub named : key_of new n ≡ key
  pub longer : length old ≤ length new
  pub kept : (k : ℕ) → k < length old → key_of new k ≡ key_of old k
  pub naming : IsNaming (length old) (key_of old) → IsNaming (length new) (key_of new)
