-- What judgements need of a scheme: who holds a category, by which chain, where an exporter is reached, and which bytes are
-- certificates.
use Rattle.std.specs.Prelude.{ℕ, List, [], Option, Some, None, Result, Ok, Err, filter_map, slice_get}
use Rattle.ds_label.specs.declared.category.PubKey.{PubKey}
use Rattle.ds_label.specs.declared.category.Category.{Category}
use Rattle.ds_cert.specs.declared.delegation.Delegation.{Delegation}
use Rattle.ds_cert.specs.Reading.{read_cert}
use Rattle.ds_cert.specs.Spelling.{spelling_of_delegation}
use Rattle.ds_chain.specs.Addresses.{find_address}
use Rattle.ds_chain.specs.Delegated.{chain_to, key_holds}
use Rattle.ds_model.specs.Scheme.{Scheme}

-- the delegations at these places, if there are any
abbrev pub delegations_at : List Delegation → Option (List ℕ) → List Delegation
delegations_at certs None = []
delegations_at certs (Some places) = filter_map (slice_get certs) places

-- the delegations of the shortest chain to the key
abbrev pub chain_of : List Delegation → (moment : ℕ) → Category → PubKey → List Delegation
chain_of certs moment c key = delegations_at certs (chain_to certs moment c key)

-- the value that was read, if one was
abbrev pub if_read : {A : Type 0} → Result A ℕ → Option A
if_read (Ok x) = Some x
if_read (Err place) = None

-- any scheme, with what judgements need of it
abbrev pub flow_scheme : Scheme → Scheme
flow_scheme s = record s {
  holds = λ certs moment c key. key_holds certs moment c key;
  chain = λ certs moment c key. chain_of certs moment c key;
  find = λ addresses moment exporter. find_address addresses moment exporter;
  spelling = spelling_of_delegation;
  read_cert = λ bytes. if_read (read_cert bytes);
}
