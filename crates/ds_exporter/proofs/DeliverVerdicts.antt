-- The verdict on a message that arrived.
use Rattle.std.proofs.Common.{◌≡◌, ℕ, zero, suc, ◌<◌, cond, Bool, true, false, ◌&&◌, List, [], ◌∷◌, Option, Some, None, length, map, slice_get, option_map, refl, sym, ap, ap₂, ◌∙◌, subst, arith}
use Rattle.std.specs.Prelude.{◌==◌, ◌+◌, ◌||◌, ◌++◌, All, IsTrue, Result, Ok, Err, not, nat_le, nat_lt, slice_index_or}
use Rattle.std.specs.List.{Any, list_all, prefix_len}
use Rattle.std.proofs.lemmas.Bool.Decides.{nat_tests}
use Rattle.std.proofs.lemmas.List.Quantifiers.{position-Some}
use Rattle.ds_label.specs.declared.category.PubKey.{PubKey}
use Rattle.ds_label.specs.declared.category.Category.{Category}
use Rattle.ds_label.specs.declared.rule.Rule.{Rule}
use Rattle.ds_label.specs.declared.rule.Rule.TheVariants.{LaneLapsed, WrongHost, WrongLabel, SenderNotTrusted}
use Rattle.ds_label.specs.Flow.{IsRising, same_label}
use Rattle.ds_label.specs.Names.{by_name, is_secrecy}
use Rattle.ds_label.specs.Numbers.{by_number}
use Rattle.ds_label.proofs.Namings.{names as naming, numbers as numbering}
use Rattle.ds_cert.specs.declared.lane.LaneCert.{LaneCert}
use Rattle.ds_msg.specs.declared.message.Message.{Message}
use Rattle.ds_msg.specs.declared.local.LocalMessage.{LocalMessage}
use Rattle.ds_msg.specs.Ranges.{MessageRange}
use Rattle.ds_model.specs.FirstRule.{each_member, or_else, unless}
use Rattle.ds_model.specs.Keys.{same_key}
use Rattle.ds_model.specs.Scheme.{Scheme}
use Rattle.ds_model.specs.Mapping.{is_known, number_of}
use Rattle.ds_model.specs.ProcessRules.{mailbox_rule}
use Rattle.ds_model.specs.ExporterRules.{carried, known_rule, receiver_rule}
use Rattle.ds_map.specs.Table.{IsTable}
use Rattle.ds_map.specs.Labels.{are_known, has_name, have_names, image, named, numbered}
use Rattle.ds_map.proofs.Numbers.{labels_one_to_one, number_named}
use Rattle.ds_map.proofs.Bridge.{has-image}
use Rattle.ds_map.proofs.Sets.{and_first, and_second, list_all-alike}
use Rattle.ds_flow.specs.Chains.{flow_scheme}
use Rattle.ds_flow.specs.Judged.{Judges, box_labels}
use Rattle.ds_flow.specs.declared.fault.FlowFault.{FlowFault}
use Rattle.ds_flow.specs.declared.fault.FlowFault.TheVariants.{Drop}
use Rattle.ds_actor.proofs.Rules.{none_or, or_else_none}
use Rattle.ds_actor.proofs.Sends.{all_known}
use Rattle.ds_desk.specs.Desks.{DeskView}
use Rattle.ds_scheme.specs.TheScheme.{scheme}
use Rattle.ds_scheme.proofs.Parts.{same_flow}
use Rattle.ds_exporter.specs.HostStates.{HostBox}
use Rattle.ds_exporter.specs.Conditions.{IsBoxNamed}
use Rattle.ds_exporter.specs.Mailboxes.{has_slot, label_at, label_in, place_of}
use Rattle.ds_inlet.specs.Accepting.{IsReadSoFar}
use Rattle.ds_inlet.specs.Connections.{Connection}
use Rattle.ds_exporter.specs.Delivering.{IsFrontJudged, IsVerdict, Passes, arrival_rule, delivery_rule, local_mail, slot_rule}
use Rattle.ds_exporter.proofs.Places.{all_get, some_is, there_is}
use Rattle.ds_exporter.proofs.DeliverAsks.{place_within}

-- THE RULES OF ARRIVAL

abbrev ArrivalFor : DeskView → LaneCert → Message → Result (Unit {0}) FlowFault → Type 0
ArrivalFor k lane m r = (s : Scheme) → Judges (receiver_rule (flow_scheme s) k.desk.store k.desk.rows k.desk.moment k.here lane m) r

arrival_here : (k : DeskView) (lane : LaneCert) (m : Message) (r : Result (Unit {0}) FlowFault) → ArrivalFor k lane m r → Judges (arrival_rule k lane m) r
arrival_here k lane m r j = subst (λ (s : Scheme). Judges (receiver_rule s k.desk.store k.desk.rows k.desk.moment k.here lane m) r) same_flow (j scheme)

pub arrival_ok : (k : DeskView) (lane : LaneCert) (m : Message) (u : Unit {0}) → ArrivalFor k lane m (Ok u) → None ≡ arrival_rule k lane m
arrival_ok k lane m u j = sym (arrival_here k lane m (Ok u) j)

pub arrival_fault : (k : DeskView) (lane : LaneCert) (m : Message) (fault : FlowFault) (rule : Rule) → fault ≡ Drop rule → ArrivalFor k lane m (Err fault) → Some rule ≡ arrival_rule k lane m
arrival_fault k lane m fault rule is j = sym (arrival_here k lane m (Err (Drop rule)) (subst (λ (f : FlowFault). ArrivalFor k lane m (Err f)) is j))

-- where all pass, each category is known
known_by : (a b c d e f : Option Rule) → or_else a (or_else b (or_else c (or_else d (or_else e (or_else f None))))) ≡ None → f ≡ None
known_by a b c d e f q =
    let in_b = (none_or a (or_else b (or_else c (or_else d (or_else e (or_else f None))))) q).1 in
    let in_c = (none_or b (or_else c (or_else d (or_else e (or_else f None)))) in_b).1 in
    let in_d = (none_or c (or_else d (or_else e (or_else f None))) in_c).1 in
    let in_e = (none_or d (or_else e (or_else f None)) in_d).1 in
    (none_or f None (none_or e (or_else f None) in_e).1).0

all_are_known : (k : DeskView) (lane : LaneCert) (m : Message) → arrival_rule k lane m ≡ None → known_rule k.here k.desk.rows m.label m.own m.clear ≡ None
all_are_known k lane m e =
    let held = k.desk.store ++ carried scheme m.certs in
    known_by (unless (nat_le lane.from k.desk.moment && nat_lt k.desk.moment lane.until) LaneLapsed) (unless (same_key m.to k.here) WrongHost) (unless (same_label by_name lane.label m.label) WrongLabel)
    (each_member (λ (c : Category). is_secrecy c.kind || scheme.holds held k.desk.moment c lane.exporter) SenderNotTrusted m.label) (each_member (λ (c : Category). scheme.holds held k.desk.moment c lane.exporter) SenderNotTrusted (m.own ++ m.clear))
    (known_rule k.here k.desk.rows m.label m.own m.clear) e

and_true : (b : Bool) → b ≡ true → (b && true) ≡ true
and_true b e = ap (λ (c : Bool). c && true) e

module _ (k : DeskView) (lane : LaneCert) (m : Message) (arrives : arrival_rule k lane m ≡ None) (table : PubKey) (here : table ≡ k.here) where
  known : (list_all (is_known k.here k.desk.rows) m.label ≡ true) × (list_all (is_known k.here k.desk.rows) m.own ≡ true) × (list_all (is_known k.here k.desk.rows) m.clear ≡ true)
  known = all_known k.here k.desk.rows m.label m.own m.clear (all_are_known k lane m arrives)

  known_there : (cs : List Category) → list_all (is_known k.here k.desk.rows) cs ≡ true → IsTrue (are_known table k.desk.rows (cs ∷ []))
  known_there cs e = subst (λ (key : PubKey). IsTrue (are_known key k.desk.rows (cs ∷ []))) (sym here) (and_true (list_all (is_known k.here k.desk.rows) cs) e)

  pub label_known : IsTrue (are_known table k.desk.rows (m.label ∷ []))
  label_known = known_there m.label known.0

  pub own_known : IsTrue (are_known table k.desk.rows (m.own ∷ []))
  own_known = known_there m.own known.1

  pub clear_known : IsTrue (are_known table k.desk.rows (m.clear ∷ []))
  clear_known = known_there m.clear known.2

-- NUMBERS OF KNOWN CATEGORIES

module _ (here : PubKey) (rows : List Category) where
  mapped_named : (cs : List Category) → list_all (is_known here rows) cs ≡ true → list_all (has_name here rows) (map (number_of here rows) cs) ≡ true
  mapped_named [] e = refl
  mapped_named (c ∷ cs) e = ap₂ (λ (a b : Bool). a && b) (number_named here rows c (and_first (is_known here rows c) (list_all (is_known here rows) cs) e)) (mapped_named cs (and_second (is_known here rows c) (list_all (is_known here rows) cs) e))

  numbers_have : (cs : List Category) → list_all (is_known here rows) cs ≡ true → list_all (has_name here rows) (numbered here rows cs) ≡ true
  numbers_have cs e =
      list_all-alike by_number numbering (has_name here rows) (image by_number (number_of here rows) cs) (map (number_of here rows) cs) (λ d. has-image by_name naming by_number numbering (number_of here rows) d cs)
      ∙ mapped_named cs e

  names_back : IsTable here rows → (cs : List Category) → IsRising by_name cs → list_all (is_known here rows) cs ≡ true → named here rows (numbered here rows cs) ≡ cs
  names_back table cs up e = (labels_one_to_one here rows table).names cs up (and_true (list_all (is_known here rows) cs) e)

-- THE MAILBOX WITH ITS SLOT

index_stands : {X : Type 0} (xs : List X) (i : ℕ) (x : X) → slice_get xs i ≡ Some x → slice_index_or xs i x ≡ x
index_stands [] i x e = absurd cc
index_stands (y ∷ xs) zero x e = some_is y x e
index_stands (y ∷ xs) (suc i) x e = index_stands xs i x e

same_slot : (a b : ℕ) → (a == b) ≡ true → a ≡ b
same_slot a b e = grind (arith, nat_tests)

-- what is found has the slot
pub slot_found : (boxes : List HostBox) (slot i : ℕ) → place_of boxes slot ≡ Some i → Any (λ b. b.slot ≡ slot) boxes
slot_found boxes slot i e =
    let within = place_within boxes slot i e in
    there_is (Any (λ b. b.slot ≡ slot) boxes) boxes i within
    (λ b h.
    let at = index_stands boxes i b h in
    let has = (position-Some (has_slot slot) boxes i b e).1 in
    (i, b, within, at, same_slot b.slot slot (subst (λ (c : HostBox). has_slot slot c ≡ true) at has)))

slot_is : (a b : ℕ) → a ≡ b → (a == b) ≡ true
slot_is a b e = grind (arith, nat_tests)

first_less : (n : ℕ) → nat_lt 0 (suc n) ≡ true
first_less n = grind (arith, nat_tests)

both_more : (n m : ℕ) → nat_lt n m ≡ true → nat_lt (1 + n) (suc m) ≡ true
both_more n m e = grind (arith, nat_tests)

-- one that passes a test comes before the end
passes_before : {X : Type 0} (p : X → Bool) (xs : List X) (i : ℕ) (x : X) → i < length xs → slice_index_or xs i x ≡ x → p x ≡ true → nat_lt (prefix_len (λ y. not (p y)) xs) (length xs) ≡ true
passes_before p [] i x within at e = absurd (omega (arith, within))
passes_before p (y ∷ xs) zero x within at e = subst (λ (b : Bool). nat_lt (cond (not b) (1 + prefix_len (λ z. not (p z)) xs) 0) (suc (length xs)) ≡ true) (sym (ap p at ∙ e)) (first_less (length xs))
passes_before p (y ∷ xs) (suc i) x within at e = go (p y) (passes_before p xs i x (omega (arith, within)) at e)
  where
    go : (b : Bool) → nat_lt (prefix_len (λ z. not (p z)) xs) (length xs) ≡ true → nat_lt (cond (not b) (1 + prefix_len (λ z. not (p z)) xs) 0) (suc (length xs)) ≡ true
    go true h = first_less (length xs)
    go false h = both_more (prefix_len (λ z. not (p z)) xs) (length xs) h

-- so a slot that one has is found
pub none_found : (boxes : List HostBox) (slot : ℕ) (o : Option ℕ) → o ≡ place_of boxes slot → o ≡ None → Any (λ b. b.slot ≡ slot) boxes → ⊥
none_found boxes slot o at none any =
    let before = passes_before (has_slot slot) boxes any.0 any.1 any.2 any.3 (slot_is any.1.slot slot any.4) in
    let place = prefix_len (λ y. not (has_slot slot y)) boxes in
    no place (subst (λ (b : Bool). cond b (Some place) None ≡ None) before (sym at ∙ none))
  where
    no : (place : ℕ) → Some place ≡ None → ⊥
    no place q = cc

-- the labels of a judgement have names
labels_named : (here : PubKey) (rows : List Category) (boxes : List HostBox) → All (IsBoxNamed here rows) boxes → (place : Option ℕ) (label : List ℕ) → list_all (has_name here rows) label ≡ true
    → IsTrue (have_names here rows (box_labels (label_at boxes place) label))
labels_named here rows boxes all None label e = and_true (list_all (has_name here rows) label) e
labels_named here rows boxes all (Some i) label e = go (slice_get boxes i) refl
  where
    go : (o : Option HostBox) → slice_get boxes i ≡ o → IsTrue (have_names here rows (box_labels (option_map label_in o) label))
    go None h = and_true (list_all (has_name here rows) label) e
    go (Some b) h =
        let is = all_get (IsBoxNamed here rows) boxes i b all h in
        λ j. and_first (list_all (has_name here rows) b.mailbox.label) true is.label j && (e j && true)

module _ (k : DeskView) (boxes : List HostBox) (lane : LaneCert) (m : Message) where
  -- a rule of arrival is the first
  pub drops_arrival : (rule : Rule) → Some rule ≡ arrival_rule k lane m → delivery_rule k boxes lane m ≡ Some rule
  drops_arrival rule e = ap (λ (r : Option Rule). or_else r (or_else (slot_rule k boxes m) None)) (sym e)

  module _ (arrives : arrival_rule k lane m ≡ None) (table : IsTable k.here k.desk.rows) (named_boxes : All (IsBoxNamed k.here k.desk.rows) boxes)
      (up_label : IsRising by_name m.label) (up_own : IsRising by_name m.own) (up_clear : IsRising by_name m.clear) where
    all_here : (list_all (is_known k.here k.desk.rows) m.label ≡ true) × (list_all (is_known k.here k.desk.rows) m.own ≡ true) × (list_all (is_known k.here k.desk.rows) m.clear ≡ true)
    all_here = all_known k.here k.desk.rows m.label m.own m.clear (all_are_known k lane m arrives)

    abbrev mail_here : LocalMessage
    mail_here = local_mail k.here k.desk.rows lane.exporter m

    abbrev target_label : Option (List ℕ)
    target_label = label_at boxes (place_of boxes m.slot)

    -- then the mailbox's rule decides
    rule_here : (o : Option Rule) → o ≡ mailbox_rule by_name (option_map (named k.here k.desk.rows) target_label) (named k.here k.desk.rows mail_here.label) → delivery_rule k boxes lane m ≡ o
    rule_here o e =
        ap (λ (r : Option Rule). or_else r (or_else (slot_rule k boxes m) None)) arrives
        ∙ (or_else_none (slot_rule k boxes m)
        ∙ (ap (mailbox_rule by_name (option_map (named k.here k.desk.rows) target_label)) (sym (names_back k.here k.desk.rows table m.label up_label all_here.0)) ∙ sym e))

    -- as the judge of mailboxes says it, under every table
    abbrev Under : Option Rule → Option (List ℕ) → List ℕ → Type 0
    Under o target label = (here : PubKey) (rows : List Category) → IsTable here rows → IsTrue (have_names here rows (box_labels target label)) → o ≡ mailbox_rule by_name (option_map (named here rows) target) (named here rows label)

    decides : (o : Option Rule) → Under o target_label mail_here.label → delivery_rule k boxes lane m ≡ o
    decides o judged = rule_here o (judged k.here k.desk.rows table (labels_named k.here k.desk.rows boxes named_boxes (place_of boxes m.slot) mail_here.label (numbers_have k.here k.desk.rows m.label all_here.0)))

    found_box : (place : Option ℕ) → place_of boxes m.slot ≡ place → Under None (label_at boxes place) mail_here.label → Any (λ b. b.slot ≡ m.slot) boxes
    found_box None e judged = absurd (no (judged k.here k.desk.rows table (labels_named k.here k.desk.rows boxes named_boxes None mail_here.label (numbers_have k.here k.desk.rows m.label all_here.0))))
      where
        no : None ≡ mailbox_rule by_name (option_map (named k.here k.desk.rows) None) (named k.here k.desk.rows mail_here.label) → ⊥
        no q = cc
    found_box (Some i) e judged = slot_found boxes m.slot i e

    passes : MessageRange m → Under None target_label mail_here.label → Passes k boxes lane m mail_here
    passes range judged = record {
      rule = decides None judged;
      names = λ i. record {
        from = lane.exporter;
        label = names_back k.here k.desk.rows table m.label up_label all_here.0 i;
        own = names_back k.here k.desk.rows table m.own up_own all_here.1 i;
        clear = names_back k.here k.desk.rows table m.clear up_clear all_here.2 i;
        payload = m.payload;
      };
      named = λ i. numbers_have k.here k.desk.rows m.label all_here.0 i && (numbers_have k.here k.desk.rows m.own all_here.1 i && (numbers_have k.here k.desk.rows m.clear all_here.2 i && true));
      box = found_box (place_of boxes m.slot) refl judged;
      short = range.payload;
    }

-- of the code's calls: the table's host, the message in its numbers and the mailbox's place are what they are
module _ (k : DeskView) (boxes : List HostBox) (lane : LaneCert) (m : Message) (arrives : None ≡ arrival_rule k lane m) (key : PubKey) (here : key ≡ k.here) (table : IsTable key k.desk.rows)
    (named_boxes : All (IsBoxNamed k.here k.desk.rows) boxes) (up_label : IsRising by_name m.label) (up_own : IsRising by_name m.own) (up_clear : IsRising by_name m.clear)
    (mail : LocalMessage) (is : mail ≡ local_mail key k.desk.rows lane.exporter m) (place : Option ℕ) (at : place ≡ place_of boxes m.slot) where
  table_here : IsTable k.here k.desk.rows
  table_here = subst (λ (host : PubKey). IsTable host k.desk.rows) here table

  abbrev here_mail : LocalMessage
  here_mail = local_mail k.here k.desk.rows lane.exporter m

  is_here : mail ≡ here_mail
  is_here = is ∙ ap (λ (host : PubKey). local_mail host k.desk.rows lane.exporter m) here

  abbrev UnderAll : Option Rule → Option (List ℕ) → List ℕ → Type 0
  UnderAll o target label = (host : PubKey) (rows : List Category) → IsTable host rows → IsTrue (have_names host rows (box_labels target label)) → o ≡ mailbox_rule by_name (option_map (named host rows) target) (named host rows label)

  under_here : (o : Option Rule) (target : Option (List ℕ)) → target ≡ label_at boxes place → UnderAll o target mail.label → UnderAll o (label_at boxes (place_of boxes m.slot)) here_mail.label
  under_here o target labelled judged =
      subst (λ (l : List ℕ). UnderAll o (label_at boxes (place_of boxes m.slot)) l) (ap (λ (x : LocalMessage). x.label) is_here)
      (subst (λ (t : Option (List ℕ)). UnderAll o t mail.label) (labelled ∙ ap (label_at boxes) at) judged)

  pub drops_target : (rule : Rule) (target : Option (List ℕ)) → target ≡ label_at boxes place → UnderAll (Some rule) target mail.label → delivery_rule k boxes lane m ≡ Some rule
  drops_target rule target labelled judged = decides k boxes lane m (sym arrives) table_here named_boxes up_label up_own up_clear (Some rule) (under_here (Some rule) target labelled judged)

  pub passes_target : MessageRange m → (target : Option (List ℕ)) → target ≡ label_at boxes place → UnderAll None target mail.label → Passes k boxes lane m mail
  passes_target range target labelled judged = subst (Passes k boxes lane m) (sym is_here) (passes k boxes lane m (sym arrives) table_here named_boxes up_label up_own up_clear range (under_here None target labelled judged))

-- OF A CONNECTION'S FIRST MESSAGE

first_of : (hand : List Message) (front : Message) → slice_get hand 0 ≡ Some front → (rest : List Message) × (hand ≡ front ∷ rest)
first_of [] front e = absurd cc
first_of (m ∷ rest) front e = (rest, ap (λ (x : Message). x ∷ rest) (some_is m front e))

pub front_judged : (k : DeskView) (boxes : List HostBox) (c : Connection) (verdict : Result LocalMessage Rule) → IsReadSoFar c → (lane : LaneCert) → c.reader.lane ≡ Some lane → (front : Message) → slice_get c.hand 0 ≡ Some front → IsVerdict k boxes lane front verdict
    → IsFrontJudged k boxes c verdict
front_judged k boxes c verdict read lane known front at says =
    let first = first_of c.hand front at in
    record { read = read; lane = lane; known = known; front = front; rest = first.0; hand = first.1; says = says }
