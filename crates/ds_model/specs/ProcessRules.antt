-- The rules of processes, over categories of any kind: the names that hosts exchange, or a host's own numbers.
-- A process has a label, an ownership and a clearance. Each rule is None where it passes.
use Rattle.std.specs.Prelude.{ℕ, Bool, ◌&&◌, ◌||◌, ◌-◌, ◌^◌, List, [], ◌∷◌, Option, Some, None, length, nat_lt, nat_le}
use Rattle.ds_label.specs.declared.rule.Rule.{Rule}
use Rattle.ds_label.specs.declared.rule.Rule.TheVariants.{NotFlow, GrantNotOwned, ClearNotHeld, NotFlowToBox, NoBox, NotFlowToTaker, LabelRefused, NotPublic, TooMany}
use Rattle.std.specs.List.{list_all}
use Rattle.ds_label.specs.Flow.{Naming, has, flows, union}
use Rattle.ds_model.specs.FirstRule.{unless, first_rule, each_secret}

-- most members of a label, of an ownership and of a clearance
abbrev pub member_limit : ℕ
member_limit = 64

-- each member of the first is in the second
abbrev pub within : {C : Type 0} → Naming C → List C → List C → Bool
within naming small large = list_all (λ c. has naming c large) small

-- each member of the first is in the second or in the third
abbrev pub within_either : {C : Type 0} → Naming C → List C → List C → List C → Bool
within_either naming small one other = list_all (λ c. has naming c one || has naming c other) small

-- A message may be sent where the label flows to the message's under the ownership, what it grants is owned, and the
-- clearance that it grants is held or owned.
abbrev pub may_send : {C : Type 0} → Naming C → (label own clear : List C) → (to grant grant_clear : List C) → Option Rule
may_send naming label own clear to grant grant_clear = first_rule (
    unless (flows naming label to own) NotFlow
    ∷ unless (within naming grant own) GrantNotOwned
    ∷ unless (within_either naming grant_clear clear own) ClearNotHeld
    ∷ [])

-- A process may take from a mailbox whose label flows to its own under its ownership.
abbrev pub may_take : {C : Type 0} → Naming C → (box : List C) → (label own : List C) → Option Rule
may_take naming box label own = unless (flows naming box label own) NotFlowToTaker

-- A label may change to one to which it flows under the ownership, where each new secrecy category is in the clearance
-- or in the ownership.
abbrev pub may_relabel : {C : Type 0} → Naming C → (label own clear : List C) → (to : List C) → Option Rule
may_relabel naming label own clear to = first_rule (
    unless (flows naming label to own) LabelRefused
    ∷ each_secret naming (λ c. has naming c label || (has naming c clear || has naming c own)) (λ c. LabelRefused) to
    ∷ [])

-- A process may act in public where it owns each secrecy category of its label.
abbrev pub may_publish : {C : Type 0} → Naming C → (label own : List C) → Option Rule
may_publish naming label own = each_secret naming (λ c. has naming c own) (λ c. NotPublic) label

-- A process may make a category where its ownership gets no 65th member and it has made fewer than 2^32 - 1.
abbrev pub may_make : {C : Type 0} → Naming C → (own : List C) → (made : ℕ) → C → Option Rule
may_make naming own made c = unless ((has naming c own || nat_lt (length own) member_limit) && nat_lt made (2 ^ 32 - 1)) TooMany

-- a taken message's ownership and clearance fit beside the process's
abbrev pub can_grant : {C : Type 0} → Naming C → (own clear : List C) → (grant grant_clear : List C) → Bool
can_grant naming own clear grant grant_clear = nat_le (length (union naming own grant)) member_limit && nat_le (length (union naming clear grant_clear)) member_limit

-- A message may go into a mailbox that exists and to whose label its own flows.
abbrev pub mailbox_rule : {C : Type 0} → Naming C → (box : Option (List C)) → (label : List C) → Option Rule
mailbox_rule naming None label = Some NoBox
mailbox_rule naming (Some box) label = unless (flows naming label box []) NotFlowToBox
