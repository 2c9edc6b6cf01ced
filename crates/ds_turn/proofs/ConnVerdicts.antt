-- The verdict on a message that arrived is the model's, by the names of the desk's table.
use Rattle.std.proofs.Common.{◌≡◌, ℕ, zero, suc, ◌<◌, Bool, true, ◌&&◌, List, [], ◌∷◌, Option, Some, None, length, map, slice_get, option_map, refl, sym, ap, ap₂, ◌∙◌, subst, arith}
use Rattle.std.specs.Prelude.{◌==◌, ◌||◌, ◌++◌, IsTrue, Result, nat_le, nat_lt, position, get_or}
use Rattle.std.specs.List.{list_all}
use Rattle.std.proofs.lemmas.Option.{slice_get-map}
use Rattle.std.proofs.lemmas.List.Quantifiers.{position-Some}
use Rattle.ds_label.specs.declared.category.PubKey.{PubKey}
use Rattle.ds_label.specs.declared.category.Category.{Category}
use Rattle.ds_label.specs.declared.rule.Rule.{Rule}
use Rattle.ds_label.specs.declared.rule.Rule.TheVariants.{LaneLapsed, WrongHost, WrongLabel, SenderNotTrusted}
use Rattle.ds_label.specs.Flow.{IsRising, same_label}
use Rattle.ds_label.specs.Names.{by_name, is_secrecy}
use Rattle.ds_label.specs.Numbers.{by_number}
use Rattle.ds_label.proofs.Namings.{names as naming, numbers as numbering}
use Rattle.ds_cert.specs.declared.lane.LaneCert.{LaneCert}
use Rattle.ds_msg.specs.declared.message.Message.{Message}
use Rattle.ds_msg.specs.declared.local.LocalMessage.{LocalMessage}
use Rattle.ds_model.specs.FirstRule.{each_member, first_rule, or_else, unless}
use Rattle.ds_model.specs.Keys.{same_key}
use Rattle.ds_model.specs.Scheme.{Scheme}
use Rattle.ds_model.specs.Plan.{BoxPlan, HostPlan, no_box}
use Rattle.ds_model.specs.Mapping.{is_known, number_of}
use Rattle.ds_model.specs.ProcessRules.{mailbox_rule}
use Rattle.ds_model.specs.ProcessStep.{box_of, judge_box, label_of, mail_of, target}
use Rattle.ds_model.specs.ConnectionStep.{judge_delivery, target_rule}
use Rattle.ds_model.specs.ExporterRules.{carried, known_rule, receiver_rule}
use Rattle.ds_map.specs.Table.{IsTable}
use Rattle.ds_map.specs.Labels.{has_name, have_names, image, named, numbered}
use Rattle.ds_map.proofs.Numbers.{labels_one_to_one, number_named}
use Rattle.ds_map.proofs.Bridge.{has-image}
use Rattle.ds_map.proofs.Sets.{and_first, and_second, list_all-alike}
use Rattle.ds_flow.specs.Chains.{flow_scheme}
use Rattle.ds_flow.specs.Judged.{box_labels}
use Rattle.ds_flow.proofs.Flows.{box_by_names}
use Rattle.ds_actor.proofs.Rules.{none_or, or_else_none}
use Rattle.ds_actor.proofs.Sends.{all_known}
use Rattle.ds_desk.specs.Desks.{DeskView}
use Rattle.ds_share.specs.declared.desk_act.DeskReply.{DeskReply}
use Rattle.ds_share.specs.declared.desk_act.DeskReply.TheVariants.{Named}
use Rattle.ds_share.specs.Desks.{judged}
use Rattle.ds_turn.specs.declared.node.BoxSeat.{BoxSeat}
use Rattle.ds_turn.specs.ConnTurns.{IsVerdict, by_rule, label_at, label_in, mail_in, place_of, slot_rule}
use Rattle.ds_turn.specs.ConnVerdicts.{IsInOrder, IsJudgedPlainly, IsPlainVerdict, IsPlanOf, label_by, named_label, named_mail}
use Rattle.ds_turn.proofs.ConnAsks.{box_is}

-- WHERE NO RULE OF ARRIVAL FAILS EACH CATEGORY IS KNOWN

known_by : (a b c d e f : Option Rule) → or_else a (or_else b (or_else c (or_else d (or_else e (or_else f None))))) ≡ None → f ≡ None
known_by a b c d e f q =
    let in_b = (none_or a (or_else b (or_else c (or_else d (or_else e (or_else f None))))) q).1 in
    let in_c = (none_or b (or_else c (or_else d (or_else e (or_else f None)))) in_b).1 in
    let in_d = (none_or c (or_else d (or_else e (or_else f None))) in_c).1 in
    let in_e = (none_or d (or_else e (or_else f None)) in_d).1 in
    (none_or f None (none_or e (or_else f None) in_e).1).0

abbrev arrival_rule : Scheme → DeskView → LaneCert → Message → Option Rule
arrival_rule s k lane m = receiver_rule (flow_scheme s) k.desk.store k.desk.rows k.desk.moment k.here lane m

all_are_known : (s : Scheme) (k : DeskView) (lane : LaneCert) (m : Message) → arrival_rule s k lane m ≡ None → known_rule k.here k.desk.rows m.label m.own m.clear ≡ None
all_are_known s k lane m e =
    let held = k.desk.store ++ carried (flow_scheme s) m.certs in
    known_by (unless (nat_le lane.from k.desk.moment && nat_lt k.desk.moment lane.until) LaneLapsed) (unless (same_key m.to k.here) WrongHost) (unless (same_label by_name lane.label m.label) WrongLabel)
    (each_member (λ (c : Category). is_secrecy c.kind || (flow_scheme s).holds held k.desk.moment c lane.exporter) SenderNotTrusted m.label)
    (each_member (λ (c : Category). (flow_scheme s).holds held k.desk.moment c lane.exporter) SenderNotTrusted (m.own ++ m.clear))
    (known_rule k.here k.desk.rows m.label m.own m.clear) e

and_true : (b : Bool) → b ≡ true → (b && true) ≡ true
and_true b e = ap (λ (c : Bool). c && true) e

-- NUMBERS OF KNOWN CATEGORIES

module _ (here : PubKey) (rows : List Category) where
  mapped_named : (cs : List Category) → list_all (is_known here rows) cs ≡ true → list_all (has_name here rows) (map (number_of here rows) cs) ≡ true
  mapped_named [] e = refl
  mapped_named (c ∷ cs) e = ap₂ (λ (a b : Bool). a && b) (number_named here rows c (and_first (is_known here rows c) (list_all (is_known here rows) cs) e)) (mapped_named cs (and_second (is_known here rows c) (list_all (is_known here rows) cs) e))

  numbers_have : (cs : List Category) → list_all (is_known here rows) cs ≡ true → list_all (has_name here rows) (numbered here rows cs) ≡ true
  numbers_have cs e =
      list_all-alike by_number numbering (has_name here rows) (image by_number (number_of here rows) cs) (map (number_of here rows) cs) (λ d. has-image by_name naming by_number numbering (number_of here rows) d cs)
      ∙ mapped_named cs e

  names_back : IsTable here rows → (cs : List Category) → IsRising by_name cs → list_all (is_known here rows) cs ≡ true → named here rows (numbered here rows cs) ≡ cs
  names_back table cs up e = (labels_one_to_one here rows table).names cs up (and_true (list_all (is_known here rows) cs) e)

-- THE MAILBOX WITH ITS SLOT

-- the label at a place has names
each_there : (t : List ℕ → Bool) (boxes : List BoxSeat) (i : ℕ) (l : List ℕ) → list_all t (map label_in boxes) ≡ true → option_map label_in (slice_get boxes i) ≡ Some l → t l ≡ true
each_there t [] i l all e = absurd cc
each_there t (x ∷ xs) zero l all e = ap t (sym (one x.label l e)) ∙ and_first (t x.label) (list_all t (map label_in xs)) all
  where
    one : (a b : List ℕ) → Some a ≡ Some b → a ≡ b
    one a b e = cc
each_there t (x ∷ xs) (suc i) l all e = each_there t xs i l (and_second (t x.label) (list_all t (map label_in xs)) all) e

labels_named : (here : PubKey) (rows : List Category) (boxes : List BoxSeat) → list_all (list_all (has_name here rows)) (map label_in boxes) ≡ true → (place : Option ℕ) (label : List ℕ) → list_all (has_name here rows) label ≡ true
    → IsTrue (have_names here rows (box_labels (label_at boxes place) label))
labels_named here rows boxes all None label e = and_true (list_all (has_name here rows) label) e
labels_named here rows boxes all (Some i) label e = go (option_map label_in (slice_get boxes i)) refl
  where
    go : (o : Option (List ℕ)) → option_map label_in (slice_get boxes i) ≡ o → IsTrue (have_names here rows (box_labels o label))
    go None h = and_true (list_all (has_name here rows) label) e
    go (Some l) h = λ j. each_there (list_all (has_name here rows)) boxes i l all h j && (e j && true)

-- an item that stands, by what is seen of it
stands : (xs : List BoxPlan) (i : ℕ) → i < length xs → Some (get_or xs i no_box).label ≡ option_map label_by (slice_get xs i)
stands [] i within = absurd (omega (arith, within))
stands (x ∷ xs) zero within = refl
stands (x ∷ xs) (suc i) within = stands xs i (omega (arith, within))

found_within : (xs : List BoxPlan) (slot i : ℕ) → position (λ (b : BoxPlan). b.slot == slot) xs ≡ Some i → i < length xs
found_within [] slot i e = absurd cc
found_within (x ∷ xs) slot i e = (position-Some (λ (b : BoxPlan). b.slot == slot) (x ∷ xs) i x e).0

named_twice : (here : PubKey) (rows : List Category) (o : Option BoxSeat) → option_map (named_label here rows) o ≡ option_map (named here rows) (option_map label_in o)
named_twice here rows None = refl
named_twice here rows (Some seat) = refl

module _ (k : DeskView) (boxes : List BoxSeat) (plan : HostPlan) (is : IsPlanOf k boxes plan) where
  label_there : (o : Option ℕ) → ((i : ℕ) → o ≡ Some i → i < length plan.boxes) → label_of plan o ≡ option_map (named k.here k.desk.rows) (label_at boxes o)
  label_there None within = refl
  label_there (Some i) within =
      stands plan.boxes i (within i refl)
      ∙ (sym (slice_get-map label_by plan.boxes i)
      ∙ (ap (λ (ls : List (List Category)). slice_get ls i) is.labels
      ∙ (slice_get-map (named_label k.here k.desk.rows) boxes i
      ∙ named_twice k.here k.desk.rows (slice_get boxes i))))

  label_is : (slot : ℕ) → label_of plan (box_of plan slot) ≡ option_map (named k.here k.desk.rows) (label_at boxes (place_of boxes slot))
  label_is slot =
      label_there (box_of plan slot) (λ i h. found_within plan.boxes slot i h)
      ∙ ap (λ (o : Option ℕ). option_map (named k.here k.desk.rows) (label_at boxes o)) (box_is plan boxes slot is.slots)

  -- the rule of a target is the mailbox's
  target_is : (o : Option ℕ) (label : List Category) → target_rule (target o (mailbox_rule by_name (label_of plan o) label)) ≡ mailbox_rule by_name (label_of plan o) label
  target_is None label = refl
  target_is (Some i) label = go (mailbox_rule by_name (label_of plan (Some i)) label)
    where
      go : (r : Option Rule) → target_rule (target (Some i) r) ≡ r
      go None = refl
      go (Some rule) = refl

  module _ (s : Scheme) (lane : LaneCert) (m : Message) where
    -- the rule of arrival is the plan's
    rule_here : receiver_rule (flow_scheme s) k.desk.store k.desk.rows k.desk.moment plan.key lane m ≡ arrival_rule s k lane m
    rule_here = ap (λ (key : PubKey). receiver_rule (flow_scheme s) k.desk.store k.desk.rows k.desk.moment key lane m) is.key

    delivery_by : (o : Option Rule) → arrival_rule s k lane m ≡ o → judge_delivery (flow_scheme s) plan k.desk lane m ≡ first_rule (o ∷ target_rule (judge_box plan m.slot m.label) ∷ [])
    delivery_by o e = ap (λ (r : Option Rule). first_rule (r ∷ target_rule (judge_box plan m.slot m.label) ∷ [])) (rule_here ∙ e)

    module _ (up : IsInOrder m) (arrives : arrival_rule s k lane m ≡ None) where
      known : (list_all (is_known k.here k.desk.rows) m.label ≡ true) × (list_all (is_known k.here k.desk.rows) m.own ≡ true) × (list_all (is_known k.here k.desk.rows) m.clear ≡ true)
      known = all_known k.here k.desk.rows m.label m.own m.clear (all_are_known s k lane m arrives)

      abbrev numbers : List ℕ
      numbers = numbered k.here k.desk.rows m.label

      -- then the mailbox's rule over the numbers decides
      decides : judge_delivery (flow_scheme s) plan k.desk lane m ≡ slot_rule boxes m.slot numbers
      decides =
          delivery_by None arrives
          ∙ (or_else_none (target_rule (judge_box plan m.slot m.label))
          ∙ (target_is (box_of plan m.slot) m.label
          ∙ (ap (λ (l : Option (List Category)). mailbox_rule by_name l m.label) (label_is m.slot)
          ∙ (ap (mailbox_rule by_name (option_map (named k.here k.desk.rows) (label_at boxes (place_of boxes m.slot)))) (sym (names_back k.here k.desk.rows is.table m.label up.label known.0))
          ∙ box_by_names k.here k.desk.rows is.table (label_at boxes (place_of boxes m.slot)) numbers
          (labels_named k.here k.desk.rows boxes is.names (place_of boxes m.slot) numbers (numbers_have k.here k.desk.rows m.label known.0))))))

      abbrev mail : LocalMessage
      mail = mail_in lane m numbers (numbered k.here k.desk.rows m.own) (numbered k.here k.desk.rows m.clear)

      names_are : named_mail k.here k.desk.rows mail ≡ mail_of lane.exporter m
      names_are = λ i. record {
        from = lane.exporter;
        label = names_back k.here k.desk.rows is.table m.label up.label known.0 i;
        own = names_back k.here k.desk.rows is.table m.own up.own known.1 i;
        clear = names_back k.here k.desk.rows is.table m.clear up.clear known.2 i;
        payload = m.payload;
      }

      by_slot : (o : Option Rule) → slot_rule boxes m.slot numbers ≡ o → IsPlainVerdict s plan k lane m (by_rule o mail)
      by_slot None e = (decides ∙ e, names_are)
      by_slot (Some rule) e = decides ∙ e

    by_arrival : IsInOrder m → (o : Option Rule) → arrival_rule s k lane m ≡ o → (v : Result LocalMessage Rule)
        → IsVerdict boxes lane m (judged o (Named (numbered k.here k.desk.rows m.label) (numbered k.here k.desk.rows m.own) (numbered k.here k.desk.rows m.clear))) v → IsPlainVerdict s plan k lane m v
    by_arrival up None e v says = subst (IsPlainVerdict s plan k lane m) (sym says) (by_slot up e (slot_rule boxes m.slot (numbered k.here k.desk.rows m.label)) refl)
    by_arrival up (Some rule) e v says = subst (IsPlainVerdict s plan k lane m) (sym says) (delivery_by (Some rule) e)

pub judged_plainly : IsJudgedPlainly
judged_plainly s plan k boxes lane m reply verdict is up answer says =
    by_arrival k boxes plan is s lane m up (arrival_rule s k lane m) refl verdict (subst (λ (r : DeskReply). IsVerdict boxes lane m r verdict) answer says)
