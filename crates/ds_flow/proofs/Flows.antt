-- What is asked of labels one after another, and what is attached one after another.
use Rattle.std.specs.Prelude.{IsTrue, ◌↔◌, nat_le, nat_lt}
use Rattle.std.proofs.lemmas.Bool.{false≢true}
use Rattle.ds_label.specs.Flow.{has, same_label, IsRising}
use Rattle.ds_label.specs.Names.{by_name}
use Rattle.ds_label.proofs.Flows.{same_label_carries, same_label_carries_back, same_label-refl}
use Rattle.ds_label.proofs.Namings.{names}
use Rattle.ds_map.proofs.Sets.{rising-equal}
use Rattle.ds_map.proofs.Numbers.{same_rules}
use Rattle.ds_map.specs.Labels.{have_names, named}
use Rattle.ds_map.specs.Table.{IsTable}
use Rattle.ds_label.specs.Numbers.{by_number}
use Rattle.ds_model.specs.ProcessRules.{mailbox_rule}
use Rattle.ds_flow.specs.Judged.{box_labels}
use Rattle.ds_flow.proofs.Doubles.{both, doubles_hold}
use Rattle.std.proofs.Common.{◌≡◌, ℕ, Bool, true, false, List, [], ◌∷◌, ◌++◌, ◌&&◌, ◌||◌, refl, sym, ◌∙◌, ap, ap₂, subst}
use Rattle.std.specs.Prelude.{Option, Some, None, flat_map, filter, option_map}
use Rattle.ds_label.specs.declared.rule.Rule.{Rule}
use Rattle.ds_model.specs.FirstRule.{unless, or_else, each_member}
use Rattle.ds_label.specs.declared.category.PubKey.{PubKey}
use Rattle.ds_label.specs.declared.category.Category.{Category}
use Rattle.ds_cert.specs.declared.delegation.Delegation.{Delegation}
use Rattle.ds_model.specs.ExporterRules.{attach_all, with_attached, attach, carried, with_read, receiver_rule}
use Rattle.ds_model.specs.Scheme.{Scheme}
use Rattle.ds_flow.specs.Asked.{attach_each, is_integrity, spelled_chain, shown, arrival_rule, kept_all, holds_by, holds_integrity}
use Rattle.ds_cert.specs.declared.lane.LaneCert.{LaneCert}
use Rattle.ds_msg.specs.declared.message.Message.{Message}
use Rattle.ds_label.specs.declared.rule.Rule.TheVariants.{LaneLapsed, WrongHost, WrongLabel, SenderNotTrusted, NotKnown}
use Rattle.ds_label.specs.Names.{is_secrecy}
use Rattle.ds_chain.specs.Delegated.{key_holds}
use Rattle.ds_model.specs.Keys.{same_key}
use Rattle.ds_model.specs.Mapping.{is_known}
use Rattle.ds_flow.specs.Chains.{flow_scheme, if_read}
use Rattle.ds_cert.specs.Reading.{read_cert}
use Rattle.std.proofs.lemmas.Grind.{flat_map-append}

or_else_more : (a b c : Option Rule) → or_else (or_else a b) c ≡ or_else a (or_else b c)
or_else_more None b c = refl
or_else_more (Some rule) b c = refl

-- asked of one label and then of another
pub each_append : {C : Type 0} (test : C → Bool) (rule : C → Rule) (xs ys : List C) → each_member test rule (xs ++ ys) ≡ or_else (each_member test rule xs) (each_member test rule ys)
each_append test rule [] ys = refl
each_append test rule (x ∷ xs) ys =
    ap (λ z. or_else (unless (test x) (rule x)) z) (each_append test rule xs ys)
    ∙ sym (or_else_more (unless (test x) (rule x)) (each_member test rule xs) (each_member test rule ys))

pub or_else_none : (a : Option Rule) → or_else a None ≡ a
or_else_none None = refl
or_else_none (Some rule) = refl

-- attached one after another
pub attach_append : (attached xs ys : List (List ℕ)) → attach_all attached (xs ++ ys) ≡ attach_all (attach_all attached xs) ys
attach_append attached [] ys = refl
attach_append attached (x ∷ xs) ys = attach_append (with_attached x attached) xs ys

attach_each_is : (chain : Category → List (List ℕ)) (attached : List (List ℕ)) (cs : List Category) → attach_each chain attached cs ≡ attach_all attached (flat_map chain cs)
attach_each_is chain attached [] = refl
attach_each_is chain attached (c ∷ cs) = attach_each_is chain (attach_all attached (chain c)) cs ∙ sym (attach_append attached (chain c) (flat_map chain cs))

-- what is attached for a label's integrity categories, then for the ownership and the clearance, is what the model attaches
pub attached_is : (s : Scheme) (store : List Delegation) (now : ℕ) (here : PubKey) (label own clear : List Category)
    → attach_each (spelled_chain store now here) (attach_each (spelled_chain store now here) (attach_each (spelled_chain store now here) [] (filter is_integrity label)) own) clear
    ≡ attach (flow_scheme s) store now here label own clear
attached_is s store now here label own clear =
    let chain : Category → List (List ℕ) = spelled_chain store now here in
    let one : List (List ℕ) = attach_each chain [] (filter is_integrity label) in
    attach_each_is chain (attach_each chain one own) clear
    ∙ ap (λ z. attach_all z (flat_map chain clear)) (attach_each_is chain one own)
    ∙ sym (attach_append one (flat_map chain own) (flat_map chain clear))
    ∙ ap (λ z. attach_all one z) (sym (flat_map-append chain own clear))
    ∙ ap (λ z. attach_all z (flat_map chain (own ++ clear))) (attach_each_is chain [] (filter is_integrity label))
    ∙ sym (attach_append [] (flat_map chain (filter is_integrity label)) (flat_map chain (own ++ clear)))
    ∙ ap (λ z. attach_all [] z) (sym (flat_map-append chain (filter is_integrity label) (own ++ clear)))

-- the delegations that a message shows are those that the model reads
pub carried_is : (s : Scheme) (certs : List (List ℕ)) → carried (flow_scheme s) certs ≡ shown certs
carried_is s [] = refl
carried_is s (bytes ∷ more) = ap (with_read (if_read (read_cert bytes))) (carried_is s more)

-- labels in order are equal exactly where they have the same members
pub same_label_is : (same : Bool) (a b : List Category) → IsRising by_name a → IsRising by_name b → IsTrue same ↔ (a ≡ b) → same ≡ same_label by_name a b
same_label_is true a b r q d = subst (λ z. true ≡ same_label by_name a z) (d.0 refl) (sym (same_label-refl by_name names a))
same_label_is false a b r q d = go (same_label by_name a b) refl
  where
    alike : same_label by_name a b ≡ true → (c : Category) → has by_name c a ≡ has by_name c b
    alike e c = both (has by_name c a) (has by_name c b) (same_label_carries by_name names c a b e) (same_label_carries_back by_name names c a b e)

    go : (z : Bool) → same_label by_name a b ≡ z → false ≡ z
    go false e = refl
    go true e = absurd (false≢true (d.1 (rising-equal by_name names a b r q (alike e))))

-- equal tests give equal rules
pub each_alike : {C : Type 0} (one other : C → Bool) (rule : C → Rule) (cs : List C) → ((c : C) → one c ≡ other c) → each_member one rule cs ≡ each_member other rule cs
each_alike one other rule cs same i = each_member (λ c. same c i) rule cs

-- what is asked of a message that arrived is what the model asks
pub arrival_is : (s : Scheme) (store : List Delegation) (rows : List Category) (now : ℕ) (here : PubKey) (lane : LaneCert) (m : Message)
    → arrival_rule (store ++ kept_all [] (shown m.certs)) rows now here lane m ≡ receiver_rule (flow_scheme s) store rows now here lane m
arrival_is s store rows now here lane m =
    let held : List Delegation = store ++ kept_all [] (shown m.certs) in
    let all : List Delegation = store ++ carried (flow_scheme s) m.certs in
    let same : (c : Category) → key_holds held now c lane.exporter ≡ key_holds all now c lane.exporter
    = λ c. doubles_hold store (shown m.certs) now c lane.exporter ∙ ap (λ z. key_holds (store ++ z) now c lane.exporter) (sym (carried_is s m.certs)) in
    let own : Option Rule = each_member (holds_by all now lane.exporter) SenderNotTrusted m.own in
    let clear : Option Rule = each_member (holds_by all now lane.exporter) SenderNotTrusted m.clear in
    let known : List Category → Option Rule = λ cs. each_member (is_known here rows) NotKnown cs in
    let before : Option Rule → Option Rule → Option Rule = λ one other.
    or_else (unless (nat_le lane.from now && nat_lt now lane.until) LaneLapsed)
    (or_else (unless (same_key m.to here) WrongHost)
    (or_else (unless (same_label by_name lane.label m.label) WrongLabel) (or_else one other))) in
    ap₂ before
    (each_alike (holds_integrity held now lane.exporter) (holds_integrity all now lane.exporter) SenderNotTrusted m.label (λ c. ap (λ z. is_secrecy c.kind || z) (same c)))
    (ap₂ (λ o l. or_else o (or_else l (or_else (known m.label) (or_else (known m.own) (or_else (known m.clear) None)))))
    (each_alike (holds_by held now lane.exporter) (holds_by all now lane.exporter) SenderNotTrusted m.own same)
    (each_alike (holds_by held now lane.exporter) (holds_by all now lane.exporter) SenderNotTrusted m.clear same)
    ∙ ap (λ z. or_else own (or_else clear z)) (
    ap (λ z. or_else (known m.label) (or_else (known m.own) z)) (or_else_none (known m.clear))
    ∙ ap (λ z. or_else (known m.label) z) (sym (each_append (is_known here rows) NotKnown m.own m.clear))
    ∙ sym (each_append (is_known here rows) NotKnown m.label (m.own ++ m.clear))
    ∙ sym (or_else_none (known (m.label ++ (m.own ++ m.clear)))))
    ∙ sym (or_else_more own clear (or_else (known (m.label ++ (m.own ++ m.clear))) None))
    ∙ ap (λ z. or_else z (or_else (known (m.label ++ (m.own ++ m.clear))) None)) (sym (each_append (holds_by all now lane.exporter) SenderNotTrusted m.own m.clear)))

-- a judgement for a mailbox over names is that over their numbers
pub box_by_names : (here : PubKey) (rows : List Category) → IsTable here rows → (target : Option (List ℕ)) (label : List ℕ) → IsTrue (have_names here rows (box_labels target label))
    → mailbox_rule by_name (option_map (named here rows) target) (named here rows label) ≡ mailbox_rule by_number target label
box_by_names here rows table None label e = refl
box_by_names here rows table (Some target) label e = (same_rules here rows table).mailbox target label e
