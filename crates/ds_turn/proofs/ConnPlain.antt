-- A turn of a connection is the plain world's.
use Rattle.std.proofs.Common.{◌≡◌, ℕ, Bool, true, false, List, [], ◌∷◌, Option, Some, None, refl, sym, ap, subst, ◌∙◌}
use Rattle.std.specs.Prelude.{is_some, Result, Ok, Err}
use Rattle.std.specs.Bool.{MatchBool}
use Rattle.ds_label.specs.declared.rule.Rule.{Rule}
use Rattle.ds_cert.specs.declared.lane.LaneCert.{LaneCert}
use Rattle.ds_msg.specs.declared.message.Message.{Message}
use Rattle.ds_msg.specs.declared.local.LocalMessage.{LocalMessage}
use Rattle.ds_frame.specs.declared.item.Failure.{Failure}
use Rattle.ds_frame.specs.declared.item.ReadEnd.{ReadEnd}
use Rattle.ds_frame.specs.declared.item.ReadEnd.TheVariants as ends
use Rattle.ds_frame.specs.Fields.{ReadFault, Open, Broken}
use Rattle.ds_model.specs.Plan.{HostPlan}
use Rattle.ds_model.specs.Scheme.{Scheme, Item, Hello, Framed}
use Rattle.ds_model.specs.ConnectionStep.{ConnInternal, ConnWaits, accept, passed_of}
use Rattle.ds_inlet.specs.Hosts.{seen_reading}
use Rattle.ds_inlet.specs.declared.offer.Offer.{Offer}
use Rattle.ds_inlet.specs.declared.offer.Offer.TheVariants as offers
use Rattle.ds_inlet.specs.OfferedFrames.{OfferedFrame}
use Rattle.ds_inlet.specs.Connections.{Connection, IsAccepted, ReadStep, Reads, read_step, reading_step, seen_step, step_unless_failed, step_unless_offered}
use Rattle.ds_inlet.specs.PlainConnections.{plain_conn}
use Rattle.ds_inlet.specs.Accepting.{Accepts, FailsOnce, IsReadSoFar, inlet_plan, inlet_scheme}
use Rattle.ds_inlet.proofs.Accepting.{accepts_reads}
use Rattle.ds_inlet.proofs.PlainCalls.{plain_drop, plain_pass}
use Rattle.ds_turn.specs.declared.node.Node.{Node}
use Rattle.ds_turn.specs.ConnRecords.{ConnRecord}
use Rattle.ds_turn.specs.ConnTurns.{AsItWas, Broke, Counted, Greeted, HasBox, HasNothing, IsBroken, IsOpen, Judged, KeepsBack, LeadsTo, Offers, Put, Puts, Rests, TookConnTurn, after_verdict, place_of}
use Rattle.ds_turn.specs.ConnAsks.{AcceptsBy, Asks, AsksInTurn, BecomesBy, IsSamePlain, PutsBy}
use Rattle.ds_turn.proofs.ConnAsks.{asks_arrival, asks_nothing, asks_put}

-- A FRAME THAT STAYS OFFERED

-- an offered frame isn't taken yet
abbrev SameWhereOffered : (k : Connection) → Result Offer ReadEnd → Connection → Type 0
SameWhereOffered k (Ok offers.Hello) m = Unit {0}
SameWhereOffered k (Ok (offers.Frame inlet number)) m = IsSamePlain k m
SameWhereOffered k (Err end) m = Unit {0}

same_seen : (k : Connection) (x : Item) (rest : List ℕ) → SameWhereOffered k (seen_step k x rest).answer (seen_step k x rest).conn
same_seen k (Hello lane) rest = tt
same_seen k (Framed number messages) rest = λ link passed. refl

same_reading : (k : Connection) (r : Result (Item × List ℕ) ReadFault) → SameWhereOffered k (reading_step k r).answer (reading_step k r).conn
same_reading k (Ok x) = same_seen k x.0 x.1
same_reading k (Err Open) = tt
same_reading k (Err (Broken cause offset)) = tt

same_failed : (k : Connection) (o : Option Failure) → SameWhereOffered k (step_unless_failed o k).answer (step_unless_failed o k).conn
same_failed k None = same_reading k (seen_reading k.here k.inlets k.reader.lane k.reader.rest)
same_failed k (Some failure) = tt

same_offered : (k : Connection) (o : Option OfferedFrame) → SameWhereOffered k (step_unless_offered o k).answer (step_unless_offered o k).conn
same_offered k None = same_failed k k.reader.failure
same_offered k (Some o) = λ link passed. refl

same_read : (k m : Connection) (inlet number : ℕ) → read_step k ≡ record { answer = Ok (offers.Frame inlet number); conn = m } → IsSamePlain k m
same_read k m inlet number e = subst (λ (t : ReadStep). SameWhereOffered k t.answer t.conn) e (same_offered k k.offered)

pub plain_back : (a b : ConnRecord) → KeepsBack a b → IsSamePlain a.conn b.conn
plain_back a b (AsItWas same) = λ link passed. ap (λ (r : ConnRecord). plain_conn link passed r.conn) same
plain_back a b (Offers inlet number reads is) = same_read a.conn b.conn inlet number reads

-- A MESSAGE THAT IS JUDGED

becomes_by : (lane : LaneCert) (first : Message) (rest : List Message) (v : Result LocalMessage Rule) (k m : Connection) → m ≡ after_verdict v k → k.hand ≡ first ∷ rest → BecomesBy lane first rest v k m
becomes_by lane first rest (Ok mail) k m e hand = λ link. ap (plain_conn link (Some (passed_of lane first))) e ∙ plain_pass link None k lane first rest mail hand
becomes_by lane first rest (Err rule) k m e hand = λ link. ap (plain_conn link None) e ∙ plain_drop link None k lane first rest rule hand

-- A TURN

there_is : (o : Option ℕ) → is_some o ≡ true → (place : ℕ) × (o ≡ Some place)
there_is None e = absurd cc
there_is (Some place) e = (place, refl)

module _ (node : Node) (a b : ConnRecord) (is : IsReadSoFar a.conn) (fit : IsAccepted a.conn) (leads : LeadsTo node a.conn) where
  abbrev Plainly : Result Offer ReadEnd → Connection → Type 0
  Plainly r m = (s : Scheme) (plan : HostPlan) (link : List ℕ) → Accepts link a.conn.reader.failure r m (accept (inlet_scheme s) (inlet_plan plan a.conn) (plain_conn link None a.conn) a.conn.arrived)

  plainly : (r : Result Offer ReadEnd) (m : Connection) → a.conn.hand ≡ [] → Reads a.conn r m → Plainly r m
  plainly r m hand reads = accepts_reads a.conn r m is fit.lane fit.offered hand reads

  asks_put_of : (t : Puts a b) → (place : ℕ) × (place_of node.boxes.items t.slot ≡ Some place) × PutsBy node.boxes.items t.slot place a.conn
  asks_put_of t =
      let has : is_some (place_of node.boxes.items t.slot) ≡ true = subst (λ (o : Option (ℕ × LocalMessage)). HasBox node.boxes.items o) t.passed leads.passed in
      let there = there_is (place_of node.boxes.items t.slot) has in
      (there.0, there.1, asks_put a.conn is leads.hello node.boxes.items t.slot there.0 t.mail t.passed there.1)

  asks_turn : (turn : TookConnTurn node.boxes.items a b) → Asks node.boxes.items a b turn
  asks_turn (Greeted t) = λ s plan link. plainly (Ok offers.Hello) t.next t.hand t.reads s plan link ∙ ap (λ (r : ConnRecord). ConnInternal (plain_conn link None r.conn)) (sym t.becomes)
  asks_turn (Broke t) = λ s plan link.
      let says = plainly (Err (ends.BadFrame t.cause t.place)) t.next t.hand t.reads s plan link in
      subst (λ (o : Option Failure). FailsOnce link o t.next (accept (inlet_scheme s) (inlet_plan plan a.conn) (plain_conn link None a.conn) a.conn.arrived)) t.unbroken says
      ∙ ap (λ (r : ConnRecord). ConnInternal (plain_conn link None r.conn)) (sym t.becomes)
  asks_turn (Counted t) = λ s plan link. plainly (Ok (offers.Frame t.inlet t.number)) t.next t.hand t.reads s plan link
  asks_turn (Put t) = asks_put_of t
  asks_turn (Judged t) = (
    λ s plan link. asks_arrival a.conn is s plan link t.judged.lane t.judged.front t.judged.rest t.judged.known t.judged.hand,
    becomes_by t.judged.lane t.judged.front t.judged.rest t.verdict a.conn b.conn (ap (λ (r : ConnRecord). r.conn) t.becomes) t.judged.hand,
  )

  waits_now : a.conn.hand ≡ [] → HasNothing a.conn → AcceptsBy a.conn (λ link. ConnWaits)
  waits_now hand (IsOpen reads) = λ s plan link. plainly (Err ends.NotYet) a.conn hand reads s plan link
  waits_now hand (IsBroken failure broken reads) = λ s plan link.
      subst (λ (o : Option Failure). FailsOnce link o a.conn (accept (inlet_scheme s) (inlet_plan plan a.conn) (plain_conn link None a.conn) a.conn.arrived)) broken
      (plainly (Err (ends.BadFrame failure.cause failure.place)) a.conn hand reads s plan link)

  pub asks_in_turn : (made : Bool) → MatchBool made (TookConnTurn node.boxes.items a b) (Rests a b) → AsksInTurn node.boxes.items a b made
  asks_in_turn true did = asks_turn
  asks_in_turn false rests = (waits_now rests.hand rests.nothing, asks_nothing a.conn rests.hand)

-- the same by what a call lends
pub asks_lent : (node : Node) (a b : ConnRecord) (k l : Connection) → k ≡ a.conn → l ≡ a.conn → IsReadSoFar k → IsAccepted l → LeadsTo node a.conn
    → (made : Bool) → MatchBool made (TookConnTurn node.boxes.items a b) (Rests a b) → AsksInTurn node.boxes.items a b made
asks_lent node a b k l one two is fit leads made did =
    asks_in_turn node a b (subst IsReadSoFar one is) (subst IsAccepted two fit) leads made did
