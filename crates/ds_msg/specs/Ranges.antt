-- Which messages have a spelling. What the types of the code keep by themselves stands in MessageFits; what a caller has to
-- see to is the MessageRange.
use Rattle.std.specs.Prelude.{◌≡◌, ℕ, ◌<◌, ◌≤◌, ◌^◌, Bool, List, length, bytes_eq}
use Rattle.std.specs.List.{list_any, All, AllByRecursion, IsDistinct}
use Rattle.ds_cert.specs.declared.delegation.Delegation.{Delegation}
use Rattle.ds_cert.specs.Ranges.{KeyFits, LabelFits, DelegationFits}
use Rattle.ds_cert.specs.Spelling.{spelling_of_delegation}
use Rattle.ds_msg.specs.declared.message.Message.{Message}

-- bytes that spell a delegation
pub record SpellsDelegation (bytes : List ℕ) : Type 0 where
  pub delegation : Delegation
  pub fits : DelegationFits delegation
  pub spelled : bytes ≡ spelling_of_delegation delegation

-- whether the bytes are among those of a list
abbrev pub is_among : List ℕ → List (List ℕ) → Bool
is_among bytes others = list_any (bytes_eq bytes) others

-- each has at most the bytes of a delegation's longest spelling
abbrev pub AreShort : List (List ℕ) → Type 0
AreShort certs = All (λ cert. length cert ≤ 2704) certs

pub record CertsFit (certs : List (List ℕ)) : Type 0 where
  pub count : length certs ≤ 16
  pub each : AllByRecursion SpellsDelegation certs
  pub once : IsDistinct bytes_eq certs

abbrev pub PayloadFits : List ℕ → Type 0
PayloadFits payload = length payload ≤ 16384

pub record MessageRange (m : Message) : Type 0 where
  pub certs : CertsFit m.certs
  pub payload : PayloadFits m.payload

pub record MessageFits (m : Message) : Type 0 where
  pub to : KeyFits m.to
  pub slot : m.slot < 2 ^ 32
  pub label : LabelFits m.label
  pub own : LabelFits m.own
  pub clear : LabelFits m.clear
  pub range : MessageRange m
