-- A running host's desk before the first event.
use Rattle.std.specs.Prelude.{◌≡◌, ℕ, ◌<◌, ◌^◌, List, [], if◌then◌else◌}
use Rattle.std.specs.List.{fold}
use Rattle.ds_cert.specs.declared.address.Address.{Address}
use Rattle.ds_cert.specs.declared.delegation.Delegation.{Delegation}
use Rattle.ds_cert.specs.declared.cert.Cert.{Cert}
use Rattle.ds_cert.specs.declared.cert.Cert.TheVariants as certs
use Rattle.ds_cert.specs.Ranges.{KeyFits}
use Rattle.ds_cert.specs.NoDoubles.{with_address, with_delegation}
use Rattle.ds_map.specs.Table.{IsTable}
use Rattle.ds_plan.specs.declared.doc.Doc.{Doc}
use Rattle.ds_plan.specs.declared.host.HostSpec.{HostSpec}
use Rattle.ds_plan.specs.declared.cert.CertSpec.{CertSpec}
use Rattle.ds_plan.specs.declared.cert.CertSpec.TheVariants.{Made, Given}
use Rattle.ds_plan.specs.Keys.{host_key}
use Rattle.ds_plan.specs.Documents.{is_among}
use Rattle.ds_desk.specs.Desks.{DeskView, IsReplay}
use Rattle.ds_setup.specs.Signed.{DocCert}
use Rattle.ds_setup.specs.Starts.{addresses_in, delegations_in, is_by, running_desk}
use Rattle.ds_boot.specs.Signers.{identity_tree}

-- what a host keeps of one of the document's certificates, and what it issued
abbrev pub delegations_for : (place : ℕ) → DocCert → List Delegation
delegations_for place c = if is_among place c.at then delegations_in c.cert else []

abbrev pub addresses_for : (place : ℕ) → DocCert → List Address
addresses_for place c = if is_among place c.at then addresses_in c.cert else []

abbrev pub issued_for : (place : ℕ) → DocCert → List Delegation
issued_for place c = if is_by place c.by then delegations_in c.cert else []

-- each once, behind those that are kept
abbrev pub with_delegations : List Delegation → List Delegation → List Delegation
with_delegations kept new = fold (λ kept new. with_delegation new kept) kept new

abbrev pub with_addresses : List Address → List Address → List Address
with_addresses kept new = fold (λ kept new. with_address new kept) kept new

-- It is what setup says, over the host's keys, and nothing is entered.
pub record IsDeskOf (d : Doc) (place : ℕ) (h : HostSpec) (k : DeskView) : Type 0 where
  pub here : k.here ≡ host_key h
  pub key : k.key ≡ identity_tree h
  pub desk : k.desk ≡ running_desk d place h
  pub rows : IsTable (host_key h) h.map
  pub replay : IsReplay k
  pub before : k.opening.before ≡ 0
  pub history : k.history ≡ []

-- WHAT THE CODE'S TYPES SAY OF A CERTIFICATE THAT STANDS IN A DOCUMENT

pub record IsTypedAddress (a : Address) : Type 0 where
  pub exporter : KeyFits a.exporter
  pub from : a.from < 2 ^ 64
  pub until : a.until < 2 ^ 64

abbrev pub IsTypedCert : Cert → Type 0
IsTypedCert (certs.Delegation d) = Unit {0}
IsTypedCert (certs.Address a) = IsTypedAddress a

abbrev pub IsTyped : CertSpec → Type 0
IsTyped (Made by category to from until at) = Unit {0}
IsTyped (Given cert at) = IsTypedCert cert
