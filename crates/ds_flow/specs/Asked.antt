-- What a key is asked for, and what a message shows beside what a host keeps.
use Rattle.std.specs.Prelude.{ℕ, Bool, not, ◌||◌, ◌&&◌, List, [], ◌∷◌, map, Option, nat_le, nat_lt}
use Rattle.ds_label.specs.declared.category.PubKey.{PubKey}
use Rattle.ds_label.specs.declared.category.Category.{Category}
use Rattle.ds_label.specs.declared.rule.Rule.{Rule}
use Rattle.ds_label.specs.declared.rule.Rule.TheVariants.{NoAddress, PeerNotTrusted, LaneLapsed, WrongHost, WrongLabel, SenderNotTrusted, NotKnown}
use Rattle.ds_label.specs.Flow.{same_label}
use Rattle.ds_label.specs.Names.{is_secrecy, by_name}
use Rattle.ds_cert.specs.declared.delegation.Delegation.{Delegation}
use Rattle.ds_cert.specs.declared.address.Address.{Address}
use Rattle.ds_cert.specs.declared.lane.LaneCert.{LaneCert}
use Rattle.ds_cert.specs.NoDoubles.{with_delegation}
use Rattle.ds_cert.specs.Reading.{read_cert}
use Rattle.ds_cert.specs.Spelling.{spelling_of_delegation}
use Rattle.ds_msg.specs.declared.message.Message.{Message}
use Rattle.ds_chain.specs.Addresses.{find_address}
use Rattle.ds_chain.specs.Delegated.{key_holds}
use Rattle.ds_model.specs.ExporterRules.{with_read, attach_all, is_found}
use Rattle.ds_model.specs.FirstRule.{unless, first_rule, each_member, each_secret}
use Rattle.ds_model.specs.Keys.{same_key}
use Rattle.ds_model.specs.Mapping.{is_known}
use Rattle.ds_flow.specs.Chains.{chain_of, if_read}

-- whether the key holds the category at the moment, by these delegations
abbrev pub holds_by : List Delegation → (moment : ℕ) → PubKey → Category → Bool
holds_by certs moment key c = key_holds certs moment c key

-- the same, asked of integrity categories alone
abbrev pub holds_integrity : List Delegation → (moment : ℕ) → PubKey → Category → Bool
holds_integrity certs moment key c = is_secrecy c.kind || key_holds certs moment c key

-- what is asked of a message that arrived, one after another
abbrev pub arrival_rule : (held : List Delegation) → (rows : List Category) → (now : ℕ) → (here : PubKey) → LaneCert → Message → Option Rule
arrival_rule held rows now here lane m = first_rule (
    unless (nat_le lane.from now && nat_lt now lane.until) LaneLapsed
    ∷ unless (same_key m.to here) WrongHost
    ∷ unless (same_label by_name lane.label m.label) WrongLabel
    ∷ each_member (holds_integrity held now lane.exporter) SenderNotTrusted m.label
    ∷ each_member (holds_by held now lane.exporter) SenderNotTrusted m.own
    ∷ each_member (holds_by held now lane.exporter) SenderNotTrusted m.clear
    ∷ each_member (is_known here rows) NotKnown m.label
    ∷ each_member (is_known here rows) NotKnown m.own
    ∷ each_member (is_known here rows) NotKnown m.clear
    ∷ [])

-- what is asked of a message that is to be framed
abbrev pub framing_rule : List Address → List Delegation → (now : ℕ) → (to : PubKey) → (label : List Category) → Option Rule
framing_rule addresses held now to label = first_rule (
    unless (is_found (find_address addresses now to)) NoAddress
    ∷ each_secret by_name (holds_by held now to) PeerNotTrusted label
    ∷ [])

-- the delegations among spelled certificates
abbrev pub shown : List (List ℕ) → List Delegation
shown [] = []
shown (bytes ∷ more) = with_read (if_read (read_cert bytes)) (shown more)

-- a list with more delegations, each unless it is there
abbrev pub kept_all : List Delegation → List Delegation → List Delegation
kept_all kept [] = kept
kept_all kept (d ∷ more) = kept_all (with_delegation d kept) more

-- an integrity category
abbrev pub is_integrity : Category → Bool
is_integrity c = not (is_secrecy c.kind)

-- the spelled delegations of the shortest chain
abbrev pub spelled_chain : List Delegation → (moment : ℕ) → PubKey → Category → List (List ℕ)
spelled_chain certs moment key c = map spelling_of_delegation (chain_of certs moment c key)

-- what is attached after the spelled delegations of each category's chain
abbrev pub attach_each : (Category → List (List ℕ)) → List (List ℕ) → List Category → List (List ℕ)
attach_each chain attached [] = attached
attach_each chain attached (c ∷ more) = attach_each chain (attach_all attached (chain c)) more
