-- What a turn leaves of a connection: it still leads to its host.
use Rattle.std.proofs.Common.{◌≡◌, ℕ, ◌<◌, Bool, true, false, List, [], ◌∷◌, Option, Some, None, length, refl, sym, ap, subst, ◌∙◌, arith}
use Rattle.std.proofs.lemmas.Bool.Decides.{nat_tests}
use Rattle.std.specs.Prelude.{slice_index_or, ◌==◌, ◌&&◌, is_some, Result, Ok, Err}
use Rattle.std.proofs.lemmas.List.{length-map}
use Rattle.std.proofs.lemmas.List.Quantifiers.{position-Some}
use Rattle.ds_label.specs.Numbers.{by_number}
use Rattle.ds_label.specs.declared.rule.Rule.{Rule}
use Rattle.ds_cert.specs.declared.lane.LaneCert.{LaneCert}
use Rattle.ds_msg.specs.declared.message.Message.{Message}
use Rattle.ds_msg.specs.declared.local.LocalMessage.{LocalMessage}
use Rattle.ds_frame.specs.declared.item.Failure.{Failure}
use Rattle.ds_frame.specs.declared.item.ReadEnd.{ReadEnd}
use Rattle.ds_frame.specs.Fields.{ReadFault, Open, Broken}
use Rattle.ds_model.specs.Keys.{same_key}
use Rattle.ds_model.specs.ProcessRules.{mailbox_rule}
use Rattle.ds_model.specs.Scheme.{InletName, Item, Hello, Framed}
use Rattle.ds_inlet.specs.Hosts.{inlet_at, seen_reading}
use Rattle.ds_inlet.specs.declared.offer.Offer.{Offer}
use Rattle.ds_inlet.specs.OfferedFrames.{OfferedFrame}
use Rattle.ds_inlet.specs.Connections.{Connection, ReadStep, lane_inlet_of, passed_from, read_step, reading_step, refused_from, seen_step, settled, settled_as, step_unless_failed, step_unless_offered}
use Rattle.ds_share.specs.declared.desk_act.DeskReply.{DeskReply}
use Rattle.ds_share.specs.declared.desk_act.DeskReply.TheVariants.{Done, Made, Local, Attached, Found, Named, Refused}
use Rattle.ds_turn.specs.declared.node.BoxSeat.{BoxSeat}
use Rattle.ds_turn.specs.declared.node.Node.{Node}
use Rattle.ds_turn.specs.ConnTurns.{HasBox, IsVerdict, LeadsTo, after_verdict, by_rule, label_at, mail_in, name_of_seat, place_of, slot_rule}

-- A CALL OF READ

pub record IsReadFrom (k m : Connection) : Type 0 where
  pub who : m.who ≡ k.who
  pub here : m.here ≡ k.here
  pub inlets : m.inlets ≡ k.inlets
  pub arrived : m.arrived ≡ k.arrived
  pub hand : m.hand ≡ k.hand
  pub passed : m.passed ≡ k.passed
  pub lane : m.reader.lane ≡ None → k.reader.lane ≡ None

read_itself : (k : Connection) → IsReadFrom k k
read_itself k = record { who = refl; here = refl; inlets = refl; arrived = refl; hand = refl; passed = refl; lane = λ l. l }

no_lane : (lane : LaneCert) (o : Option LaneCert) → Some lane ≡ None → o ≡ None
no_lane lane o e = absurd cc

seen_from : (k : Connection) (x : Item) (rest : List ℕ) → IsReadFrom k (seen_step k x rest).conn
seen_from k (Hello lane) rest = record { who = refl; here = refl; inlets = refl; arrived = refl; hand = refl; passed = refl; lane = no_lane lane k.reader.lane }
seen_from k (Framed number messages) rest = record { who = refl; here = refl; inlets = refl; arrived = refl; hand = refl; passed = refl; lane = λ l. l }

reading_from : (k : Connection) (r : Result (Item × List ℕ) ReadFault) → IsReadFrom k (reading_step k r).conn
reading_from k (Ok x) = seen_from k x.0 x.1
reading_from k (Err Open) = read_itself k
reading_from k (Err (Broken cause offset)) = record { who = refl; here = refl; inlets = refl; arrived = refl; hand = refl; passed = refl; lane = λ l. l }

failed_from : (k : Connection) (o : Option Failure) → IsReadFrom k (step_unless_failed o k).conn
failed_from k None = reading_from k (seen_reading k.here k.inlets k.reader.lane k.reader.rest)
failed_from k (Some failure) = read_itself k

offered_from : (k : Connection) (o : Option OfferedFrame) → IsReadFrom k (step_unless_offered o k).conn
offered_from k None = failed_from k k.reader.failure
offered_from k (Some o) = read_itself k

pub read_from : (k : Connection) (r : Result Offer ReadEnd) (m : Connection) → read_step k ≡ record { answer = r; conn = m } → IsReadFrom k m
read_from k r m e = subst (λ (t : ReadStep). IsReadFrom k t.conn) e (offered_from k k.offered)

pub leads_read : (node : Node) (k m : Connection) → IsReadFrom k m → LeadsTo node k → LeadsTo node m
leads_read node k m f leads = record {
  here = f.here ∙ leads.here;
  inlets = f.inlets ∙ leads.inlets;
  passed = subst (λ (o : Option (ℕ × LocalMessage)). HasBox node.boxes.items o) (sym f.passed) leads.passed;
  hello = λ none. (f.hand ∙ (leads.hello (f.lane none)).0, f.passed ∙ (leads.hello (f.lane none)).1);
}

-- the inlet of a lane is one of the host's
position_within : (names : List InletName) (lane : LaneCert) (place : ℕ) → inlet_at names lane ≡ Some place → place < length names
position_within [] lane place e = absurd cc
position_within (name ∷ names) lane place e = (position-Some (λ i. same_key i.exporter lane.exporter && (i.lane == lane.lane)) (name ∷ names) place name e).0

lane_within : (names : List InletName) (o : Option LaneCert) (place : ℕ) → lane_inlet_of names o ≡ Some place → place < length names
lane_within names None place e = absurd cc
lane_within names (Some lane) place e = position_within names lane place e

pub place_within : (node : Node) (m : Connection) (place : ℕ) → LeadsTo node m → lane_inlet_of m.inlets m.reader.lane ≡ Some place → place < length node.inlets.items
place_within node m place leads e =
    subst (λ (n : ℕ). place < n) (ap length leads.inlets ∙ length-map node.inlets.items name_of_seat) (lane_within m.inlets m.reader.lane place e)

-- A FRAME THAT IS SETTLED

data IsSettledFrom (m n : Connection) : Type 0 where
  AreSettled : n.here ≡ m.here → n.inlets ≡ m.inlets → n.passed ≡ m.passed → n.reader.lane ≡ m.reader.lane → IsSettledFrom m n

settled_from : (m : Connection) (b : Bool) (o : Option OfferedFrame) → IsSettledFrom m (settled_as b o m)
settled_from m true None = AreSettled refl refl refl refl
settled_from m false None = AreSettled refl refl refl refl
settled_from m true (Some o) = AreSettled refl refl refl refl
settled_from m false (Some o) = AreSettled refl refl refl refl

has_lane : (inlets : List InletName) (lane : Option LaneCert) (place : ℕ) → lane_inlet_of inlets lane ≡ Some place → lane ≡ None → ⊥
has_lane inlets None place e none = absurd cc
has_lane inlets (Some lane) place e none = absurd cc

pub leads_settled : (node : Node) (m : Connection) (b : Bool) (place : ℕ) → LeadsTo node m → lane_inlet_of m.inlets m.reader.lane ≡ Some place → LeadsTo node (settled b m)
leads_settled node m b place leads there = go (settled b m) (settled_from m b m.offered)
  where
    go : (n : Connection) → IsSettledFrom m n → LeadsTo node n
    go n (AreSettled here inlets passed lane) = record {
      here = here ∙ leads.here;
      inlets = inlets ∙ leads.inlets;
      passed = subst (λ (o : Option (ℕ × LocalMessage)). HasBox node.boxes.items o) (sym passed) leads.passed;
      hello = λ none. absurd (has_lane m.inlets m.reader.lane place there (sym lane ∙ none));
    }

-- A MESSAGE THAT IS PUT

pub leads_put : (node : Node) (k : Connection) → LeadsTo node k → LeadsTo node (record k { passed = None })
leads_put node k leads = record { here = leads.here; inlets = leads.inlets; passed = tt; hello = λ none. ((leads.hello none).0, refl) }

same_slot : (a b : ℕ) → (a == b) ≡ true → a ≡ b
same_slot a b e = grind (arith, nat_tests)

-- the mailbox at the place of a slot has that slot
pub slot_at : (boxes : List BoxSeat) (slot i : ℕ) (seat : BoxSeat) → Some i ≡ place_of boxes slot → seat ≡ slice_index_or boxes i seat → seat.slot ≡ slot
slot_at boxes slot i seat found at =
    let has = (position-Some (λ (b : BoxSeat). b.slot == slot) boxes i seat (sym found)).1 in
    same_slot seat.slot slot (subst (λ (b : BoxSeat). (b.slot == slot) ≡ true) (sym at) has)

-- A MESSAGE THAT IS JUDGED

-- where no rule of a mailbox fails, there is one
has_box : (boxes : List BoxSeat) (o : Option ℕ) (label : List ℕ) → mailbox_rule by_number (label_at boxes o) label ≡ None → is_some o ≡ true
has_box boxes None label e = absurd cc
has_box boxes (Some place) label e = refl

-- what passes is for a mailbox
abbrev PassesInto : List BoxSeat → (slot : ℕ) → Result LocalMessage Rule → Type 0
PassesInto boxes slot (Ok mail) = is_some (place_of boxes slot) ≡ true
PassesInto boxes slot (Err rule) = Unit {0}

by_rule_into : (boxes : List BoxSeat) (slot : ℕ) (label : List ℕ) (mail : LocalMessage) (o : Option Rule) → slot_rule boxes slot label ≡ o → PassesInto boxes slot (by_rule o mail)
by_rule_into boxes slot label mail None e = has_box boxes (place_of boxes slot) label e
by_rule_into boxes slot label mail (Some rule) e = tt

verdict_into : (boxes : List BoxSeat) (lane : LaneCert) (m : Message) (reply : DeskReply) (v : Result LocalMessage Rule) → IsVerdict boxes lane m reply v → PassesInto boxes m.slot v
verdict_into boxes lane m (Refused rule) v is = subst (λ (u : Result LocalMessage Rule). PassesInto boxes m.slot u) (sym is) tt
verdict_into boxes lane m (Named label own clear) v is =
    subst (λ (u : Result LocalMessage Rule). PassesInto boxes m.slot u) (sym is) (by_rule_into boxes m.slot label (mail_in lane m label own clear) (slot_rule boxes m.slot label) refl)
verdict_into boxes lane m Done v is = absurd is
verdict_into boxes lane m (Made bytes) v is = absurd is
verdict_into boxes lane m (Local number) v is = absurd is
verdict_into boxes lane m (Attached certs) v is = absurd is
verdict_into boxes lane m (Found address) v is = absurd is

some_lane : (lane : LaneCert) (o : Option LaneCert) → o ≡ Some lane → o ≡ None → ⊥
some_lane lane o e none = absurd cc

module _ (node : Node) (k : Connection) (leads : LeadsTo node k) (lane : LaneCert) (known : k.reader.lane ≡ Some lane) where
  passed_leads : (mail : LocalMessage) (first : Message) (rest : List Message) → is_some (place_of node.boxes.items first.slot) ≡ true → LeadsTo node (passed_from mail (first ∷ rest) k)
  passed_leads mail first rest there = record { here = leads.here; inlets = leads.inlets; passed = there; hello = λ none. absurd (some_lane lane k.reader.lane known none) }

  refused_leads : (rule : Rule) (first : Message) (rest : List Message) → LeadsTo node (refused_from rule (first ∷ rest) k)
  refused_leads rule first rest = record { here = leads.here; inlets = leads.inlets; passed = leads.passed; hello = λ none. absurd (some_lane lane k.reader.lane known none) }

  after_leads : (first : Message) (rest : List Message) → k.hand ≡ first ∷ rest → (v : Result LocalMessage Rule) → PassesInto node.boxes.items first.slot v → LeadsTo node (after_verdict v k)
  after_leads first rest hand (Ok mail) into = subst (λ (ms : List Message). LeadsTo node (passed_from mail ms k)) (sym hand) (passed_leads mail first rest into)
  after_leads first rest hand (Err rule) into = subst (λ (ms : List Message). LeadsTo node (refused_from rule ms k)) (sym hand) (refused_leads rule first rest)

  pub leads_judged : (first : Message) (rest : List Message) (reply : DeskReply) (v : Result LocalMessage Rule) → k.hand ≡ first ∷ rest → IsVerdict node.boxes.items lane first reply v → LeadsTo node (after_verdict v k)
  leads_judged first rest reply v hand is = after_leads first rest hand v (verdict_into node.boxes.items lane first reply v is)
