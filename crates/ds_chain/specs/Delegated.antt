-- Who holds a category by delegations, and by which chain of them.
use Rattle.std.specs.Prelude.{◌≡◌, ℕ, ◌≤◌, ◌<◌, Bool, ◌&&◌, nat_le, nat_lt, List, map, Option, Some, None, slice_get, if◌then◌else◌}
use Rattle.ds_label.specs.declared.category.PubKey.{PubKey}
use Rattle.ds_label.specs.declared.category.Category.{Category}
use Rattle.ds_label.specs.Names.{same_category}
use Rattle.lms_sig.specs.Good.{IsGood}
use Rattle.ds_cert.specs.declared.delegation.Delegation.{Delegation}
use Rattle.ds_cert.specs.Spelling.{signed_part_of_delegation}
use Rattle.ds_cert.specs.Good.{is_good_delegation}
use Rattle.ds_chain.specs.declared.edge.Edge.{Edge}
use Rattle.ds_chain.specs.Keys.{same_key}
use Rattle.ds_chain.specs.Holding.{holds}
use Rattle.ds_chain.specs.Shortest.{shortest_chain}

-- whether the delegation counts for the category at the moment: it is for that category, is valid then, and is good
abbrev pub counts : ℕ → Category → Delegation → Bool
counts moment category d = same_category d.category category && ((nat_le d.from moment && nat_lt moment d.until) && is_good_delegation d)

-- the edge of a delegation that counts, or none
abbrev pub hop_of : ℕ → Category → Delegation → Option (Edge PubKey)
hop_of moment category d = if counts moment category d then Some (record { by = d.by; to = d.to }) else None

abbrev pub hops_of_list : ℕ → Category → List Delegation → List (Option (Edge PubKey))
hops_of_list moment category certs = map (hop_of moment category) certs

-- whether the key holds the category at the moment: it is reached from the creator's in as many rounds as there are delegations
abbrev pub key_holds : List Delegation → ℕ → Category → PubKey → Bool
key_holds certs moment category key = holds same_key (hops_of_list moment category certs) category.creator key

-- the shortest chain of delegations from the category's creator to the key, and of these the least place by place
abbrev pub chain_to : List Delegation → ℕ → Category → PubKey → Option (List ℕ)
chain_to certs moment category key = shortest_chain same_key (hops_of_list moment category certs) category.creator key

-- At the place stands a delegation for the category, valid at the moment and good, which the one key signed and which names the other.
pub record Delegates (certs : List Delegation) (moment : ℕ) (category : Category) (place : ℕ) (by to : PubKey) : Type 0 where
  pub cert : Delegation
  pub stands : slice_get certs place ≡ Some cert
  pub subject : cert.category ≡ category
  pub begun : cert.from ≤ moment
  pub lasting : moment < cert.until
  pub good : IsGood cert.by.0 (signed_part_of_delegation cert) cert.signature
  pub signer : cert.by ≡ by
  pub named : cert.to ≡ to
