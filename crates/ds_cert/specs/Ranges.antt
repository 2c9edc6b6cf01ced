-- Which values have a spelling. What the types of the code keep by themselves stands in the Fits of each kind; what a
-- caller has to see to is its Range.
use Rattle.std.specs.Prelude.{◌≡◌, ℕ, ◌<◌, ◌≤◌, ◌^◌, ◌&&◌, not, Bool, IsTrue, nat_lt, List, length}
use Rattle.std.specs.List.{list_all, AllByRecursion}
use Rattle.ds_label.specs.declared.category.PubKey.{PubKey}
use Rattle.ds_label.specs.declared.category.Category.{Category}
use Rattle.ds_label.specs.Flow.{IsRising}
use Rattle.ds_label.specs.Names.{by_name}
use Rattle.ds_cert.specs.declared.delegation.Delegation.{Delegation}
use Rattle.ds_cert.specs.declared.address.Address.{Address}
use Rattle.ds_cert.specs.declared.lane.LaneCert.{LaneCert}
use Rattle.ds_cert.specs.declared.cert.Cert.{Cert}
use Rattle.ds_cert.specs.declared.cert.Cert.TheVariants as certs

abbrev pub KeyFits : PubKey → Type 0
KeyFits key = length key.0 ≡ 56

pub record CategoryFits (c : Category) : Type 0 where
  pub creator : KeyFits c.creator
  pub number : c.number < 2 ^ 64

pub record LabelFits (members : List Category) : Type 0 where
  pub count : length members ≤ 64
  pub each : AllByRecursion CategoryFits members
  pub rising : IsRising by_name members

-- a byte that an address may have: a printed ASCII character that is no space
abbrev pub is_letter : ℕ → Bool
is_letter b = not (nat_lt b 0x21) && not (nat_lt 0x7e b)

pub record AddressTextFits (text : List ℕ) : Type 0 where
  pub some : 1 ≤ length text
  pub most : length text ≤ 64
  pub letters : IsTrue (list_all is_letter text)

abbrev pub SignatureFits : List ℕ → Type 0
SignatureFits signature = length signature ≤ 2508

pub record DelegationRange (d : Delegation) : Type 0 where
  pub signature : SignatureFits d.signature

pub record DelegationFits (d : Delegation) : Type 0 where
  pub category : CategoryFits d.category
  pub to : KeyFits d.to
  pub from : d.from < 2 ^ 64
  pub until : d.until < 2 ^ 64
  pub by : KeyFits d.by
  pub range : DelegationRange d

pub record AddressRange (a : Address) : Type 0 where
  pub address : AddressTextFits a.address
  pub signature : SignatureFits a.signature

pub record AddressFits (a : Address) : Type 0 where
  pub exporter : KeyFits a.exporter
  pub from : a.from < 2 ^ 64
  pub until : a.until < 2 ^ 64
  pub range : AddressRange a

pub record LaneCertRange (l : LaneCert) : Type 0 where
  pub first : 1 ≤ l.lane
  pub last : l.lane ≤ 32
  pub signature : SignatureFits l.signature

pub record LaneCertFits (l : LaneCert) : Type 0 where
  pub exporter : KeyFits l.exporter
  pub receiver : KeyFits l.receiver
  pub label : LabelFits l.label
  pub key : KeyFits l.key
  pub from : l.from < 2 ^ 64
  pub until : l.until < 2 ^ 64
  pub range : LaneCertRange l

abbrev pub CertRange : Cert → Type 0
CertRange (certs.Delegation d) = DelegationRange d
CertRange (certs.Address a) = AddressRange a

abbrev pub CertFits : Cert → Type 0
CertFits (certs.Delegation d) = DelegationFits d
CertFits (certs.Address a) = AddressFits a
