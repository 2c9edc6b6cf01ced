-- A host's public state, which its processes and workers share: the moment, the table's rows, the certificates that it
-- keeps, those that it issued, and its identity key's next leaf. It changes by its entries alone.
use Rattle.std.specs.Prelude.{ℕ, suc, Bool, true, false, not, ◌&&◌, ◌||◌, List, [], ◌∷◌, ◌++◌, Option, Some, None, length, max, nat_lt, nat_le}
use Rattle.ds_label.specs.declared.category.PubKey.{PubKey}
use Rattle.ds_label.specs.declared.category.Category.{Category}
use Rattle.ds_label.specs.declared.rule.Rule.{Rule}
use Rattle.ds_label.specs.declared.rule.Rule.TheVariants.{KeySpent, BadCert, StoreFull, TableFull}
use Rattle.ds_cert.specs.declared.delegation.Delegation.{Delegation}
use Rattle.ds_cert.specs.declared.address.Address.{Address}
use Rattle.ds_cert.specs.declared.cert.Cert.{Cert}
use Rattle.ds_cert.specs.declared.cert.Cert.TheVariants as certs
use Rattle.ds_cert.specs.NoDoubles.{same_delegation, is_kept, is_kept_address, with_delegation, with_address}
use Rattle.ds_model.specs.Stepping.{stepping}
use Rattle.ds_model.specs.FirstRule.{unless, first_rule}
use Rattle.ds_model.specs.Mapping.{is_known, with_row, number_of, row_limit}
use Rattle.ds_model.specs.Scheme.{Scheme, delegation_by}
use Rattle.ds_model.specs.Plan.{HostPlan}

-- most delegations and most address certificates that a host keeps
abbrev pub store_limit : ℕ
store_limit = 256

-- most address certificates that it keeps
abbrev pub address_limit : ℕ
address_limit = 64

-- `rows` are the foreign categories of the table, `issued` all delegations that the host signed, `leaf` the next one of its key
pub record Desk : Type 0 where
  pub moment : ℕ
  pub rows : List Category
  pub store : List Delegation
  pub addresses : List Address
  pub issued : List Delegation
  pub leaf : ℕ

-- a tick; a delegation that was made; a certificate that was imported; a category that was mapped; a judgement that read the desk; a refused act
pub data DeskEntry : Type 0 where
  Ticked : (moment : ℕ) → DeskEntry
  Delegated : Delegation → DeskEntry
  Imported : Cert → DeskEntry
  Mapped : Category → DeskEntry
  Looked : DeskEntry
  Denied : Rule → DeskEntry

-- A tick never turns the moment back. A delegation takes a leaf, and joins the issued list though it be kept already.
abbrev pub desk_after : PubKey → DeskEntry → Desk → Desk
desk_after here (Ticked t) d = record d { moment = max d.moment t }
desk_after here (Delegated new) d = record d { store = with_delegation new d.store; issued = d.issued ++ new ∷ []; leaf = suc d.leaf }
desk_after here (Imported (certs.Delegation new)) d = record d { store = with_delegation new d.store }
desk_after here (Imported (certs.Address new)) d = record d { addresses = with_address new d.addresses }
desk_after here (Mapped c) d = record d { rows = with_row here c d.rows }
desk_after here Looked d = d
desk_after here (Denied rule) d = d

-- what a process asks of the desk in public
pub data Act : Type 0 where
  Delegating : Category → (to : PubKey) → (from until : ℕ) → Act
  Importing : List ℕ → Act
  Mapping : Category → Act

-- a certificate that isn't kept finds room
abbrev pub import_rule : Desk → Cert → Option Rule
import_rule d (certs.Delegation new) = unless (is_kept new d.store || nat_lt (length d.store) store_limit) StoreFull
import_rule d (certs.Address new) = unless (is_kept_address new d.addresses || nat_lt (length d.addresses) address_limit) StoreFull

-- whether a certificate of either kind is good
abbrev pub is_good : Scheme → Cert → Bool
is_good s (certs.Delegation d) = s.good d
is_good s (certs.Address a) = s.good_address a

-- the entry, unless a rule fails
abbrev pub entry_unless : Option Rule → DeskEntry → DeskEntry
entry_unless None entry = entry
entry_unless (Some rule) entry = Denied rule

-- the entry of an import, by what its bytes spell
abbrev pub import_entry : Scheme → Desk → Option Cert → DeskEntry
import_entry s d None = Denied BadCert
import_entry s d (Some new) = entry_unless (first_rule (unless (is_good s new) BadCert ∷ import_rule d new ∷ [])) (Imported new)

-- The entry that an act makes. A delegation needs a place in the store, also where it is kept, and a leaf; an import needs
-- a good certificate and then a place, and doesn't ask whether it is valid; a mapping needs a row unless it is known.
abbrev pub act_entry : Scheme → HostPlan → Desk → Act → DeskEntry
act_entry s plan d (Delegating c to from until) =
    entry_unless (first_rule (unless (nat_lt (length d.store) store_limit) StoreFull ∷ unless (s.has_leaf plan.signing d.leaf) KeySpent ∷ []))
    (Delegated (delegation_by s plan.signing d.leaf plan.key c to from until))
act_entry s plan d (Importing bytes) = import_entry s d (s.read_cert bytes)
act_entry s plan d (Mapping c) = entry_unless (unless (is_known plan.key d.rows c || nat_lt (length d.rows) row_limit) TableFull) (Mapped c)

-- what the desk answers: done, the bytes of a delegation that it made, a category's number on this host, or a refusal
pub data Reply : Type 0 where
  Done : Reply
  Made : List ℕ → Reply
  Local : ℕ → Reply
  Refuse : Rule → Reply

-- by the desk before the entry
abbrev pub reply_of : Scheme → HostPlan → Desk → DeskEntry → Reply
reply_of s plan d (Denied rule) = Refuse rule
reply_of s plan d (Delegated new) = Made (s.spelling new)
reply_of s plan d (Mapped c) = Local (number_of plan.key d.rows c)
reply_of s plan d (Imported new) = Done
reply_of s plan d (Ticked t) = Done
reply_of s plan d Looked = Done

-- no rule fails
abbrev pub is_none : Option Rule → Bool
is_none None = true
is_none (Some rule) = false

-- when a refusal may stand in the desk's history
abbrev pub denied_needs : Scheme → HostPlan → Rule → Desk → Bool
denied_needs s plan StoreFull d = nat_le store_limit (length d.store) || nat_le address_limit (length d.addresses)
denied_needs s plan TableFull d = nat_le row_limit (length d.rows)
denied_needs s plan KeySpent d = not (s.has_leaf plan.signing d.leaf)
denied_needs s plan BadCert d = true
denied_needs s plan _ d = false

-- the delegation is the one that the host makes itself, at the next leaf of its key
abbrev pub is_own : Scheme → HostPlan → Delegation → Desk → Bool
is_own s plan new d = same_delegation new (delegation_by s plan.signing d.leaf plan.key new.category new.to new.from new.until)

-- And any entry: of a delegation, that the host makes it and has the room and the leaf; of an import, that it is good and finds room.
abbrev pub desk_needs : Scheme → HostPlan → DeskEntry → Desk → Bool
desk_needs s plan (Ticked t) d = true
desk_needs s plan (Delegated new) d = (nat_lt (length d.store) store_limit && s.has_leaf plan.signing d.leaf) && is_own s plan new d
desk_needs s plan (Imported new) d = is_good s new && is_none (import_rule d new)
desk_needs s plan (Mapped c) d = is_known plan.key d.rows c || nat_lt (length d.rows) row_limit
desk_needs s plan Looked d = true
desk_needs s plan (Denied rule) d = denied_needs s plan rule d

-- one entry of a history of the desk
abbrev pub desk_step : Scheme → HostPlan → Desk → DeskEntry → Option Desk
desk_step s plan = stepping (desk_needs s plan) (desk_after plan.key)
