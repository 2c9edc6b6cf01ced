-- The rules of exporters, over the names that hosts exchange, and the certificates that a message carries.
use Rattle.std.specs.Prelude.{ℕ, Bool, true, false, not, ◌&&◌, ◌||◌, List, [], ◌∷◌, ◌++◌, Option, Some, None, length, filter, flat_map, map, nat_le, nat_lt, bytes_eq, if◌then◌else◌}
use Rattle.ds_label.specs.declared.category.PubKey.{PubKey}
use Rattle.ds_label.specs.declared.category.Category.{Category}
use Rattle.ds_label.specs.declared.rule.Rule.{Rule}
use Rattle.ds_label.specs.declared.rule.Rule.TheVariants.{NoLane, NoAddress, PeerNotTrusted, LaneLapsed, WrongHost, WrongLabel, SenderNotTrusted, NotKnown}
use Rattle.std.specs.List.{list_any}
use Rattle.ds_label.specs.Flow.{same_label}
use Rattle.ds_label.specs.Names.{is_secrecy, by_name}
use Rattle.ds_cert.specs.declared.delegation.Delegation.{Delegation}
use Rattle.ds_cert.specs.declared.address.Address.{Address}
use Rattle.ds_cert.specs.declared.lane.LaneCert.{LaneCert}
use Rattle.ds_cert.specs.declared.cert.Cert.{Cert}
use Rattle.ds_cert.specs.declared.cert.Cert.TheVariants as certs
use Rattle.ds_msg.specs.declared.message.Message.{Message}
use Rattle.ds_model.specs.Keys.{same_key}
use Rattle.ds_model.specs.FirstRule.{unless, first_rule, each_secret, each_member}
use Rattle.ds_model.specs.Mapping.{is_known}
use Rattle.ds_model.specs.Scheme.{Scheme}

-- most certificates of a message
abbrev pub attach_limit : ℕ
attach_limit = 16

-- whether there is one
abbrev pub is_found : Option Address → Bool
is_found None = false
is_found (Some a) = true

-- The first category of a message's label, ownership and clearance, in this order, that is neither home nor in the list.
abbrev pub known_rule : PubKey → List Category → (label own clear : List Category) → Option Rule
known_rule here names label own clear = each_member (is_known here names) NotKnown (label ++ (own ++ clear))

-- The sending exporter's rule: the receiver has a good address certificate that is valid now, and holds each secrecy
-- category of the label by what the sender keeps.
abbrev pub sender_rule : Scheme → List Address → List Delegation → (now : ℕ) → (to : PubKey) → (label : List Category) → Option Rule
sender_rule s addresses store now to label = first_rule (
    unless (is_found (s.find addresses now to)) NoAddress
    ∷ each_secret by_name (λ c. s.holds store now c to) PeerNotTrusted label
    ∷ [])

-- there is a lane
abbrev pub lane_rule : Option ℕ → Option Rule
lane_rule None = Some NoLane
lane_rule (Some lane) = None

-- a send to another host: there is a lane, and then the sending exporter's rule
abbrev pub judge_send : Scheme → (lane : Option ℕ) → List Address → List Delegation → (now : ℕ) → (to : PubKey) → (label : List Category) → Option Rule
judge_send s lane addresses store now to label = first_rule (lane_rule lane ∷ sender_rule s addresses store now to label ∷ [])

-- the delegations among the certificates that a message carries
abbrev pub with_read : Option Cert → List Delegation → List Delegation
with_read (Some (certs.Delegation d)) more = d ∷ more
with_read (Some (certs.Address a)) more = more
with_read None more = more

-- those of a list of spellings
abbrev pub carried : Scheme → List (List ℕ) → List Delegation
carried s [] = []
carried s (bytes ∷ more) = with_read (s.read_cert bytes) (carried s more)

-- The receiving exporter's rule: the lane certificate is valid now, the message is for this host and has the lane's label,
-- the sender holds each integrity category of the label, and each owned and each clearance category, by what the receiver
-- keeps and the message carries, and each category is home or in a row of the table.
abbrev pub receiver_rule : Scheme → List Delegation → (rows : List Category) → (now : ℕ) → (here : PubKey) → LaneCert → Message → Option Rule
receiver_rule s store rows now here lane m = first_rule (
    unless (nat_le lane.from now && nat_lt now lane.until) LaneLapsed
    ∷ unless (same_key m.to here) WrongHost
    ∷ unless (same_label by_name lane.label m.label) WrongLabel
    ∷ each_member (λ c. is_secrecy c.kind || s.holds (store ++ carried s m.certs) now c lane.exporter) SenderNotTrusted m.label
    ∷ each_member (λ c. s.holds (store ++ carried s m.certs) now c lane.exporter) SenderNotTrusted (m.own ++ m.clear)
    ∷ known_rule here rows m.label m.own m.clear
    ∷ [])

-- the spelled certificates with one more, unless it is there or there are 16
abbrev pub with_attached : List ℕ → List (List ℕ) → List (List ℕ)
with_attached bytes attached = if list_any (bytes_eq bytes) attached || nat_le attach_limit (length attached) then attached else attached ++ bytes ∷ []

-- the attached certificates with more, one after another
abbrev pub attach_all : List (List ℕ) → List (List ℕ) → List (List ℕ)
attach_all attached [] = attached
attach_all attached (bytes ∷ more) = attach_all (with_attached bytes attached) more

-- What the exporter `here` attaches to a message: for each integrity, owned and clearance category, in this order, the
-- certificates of its own shortest chain, each once, until there are 16.
abbrev pub attach : Scheme → List Delegation → (now : ℕ) → (here : PubKey) → (label own clear : List Category) → List (List ℕ)
attach s store now here label own clear =
    attach_all [] (flat_map (λ c. map s.spelling (s.chain store now c here)) (filter (λ c. not (is_secrecy c.kind)) label ++ (own ++ clear)))
