-- What the plain world's connection asks where a turn made an event, and where it made none.
use Rattle.std.specs.Prelude.{◌≡◌, ℕ, Bool, true, false, List, map, Option, Some, None, Result, Ok, Err}
use Rattle.ds_label.specs.declared.rule.Rule.{Rule}
use Rattle.ds_cert.specs.declared.lane.LaneCert.{LaneCert}
use Rattle.ds_msg.specs.declared.message.Message.{Message}
use Rattle.ds_msg.specs.declared.local.LocalMessage.{LocalMessage}
use Rattle.ds_model.specs.Scheme.{Scheme}
use Rattle.ds_model.specs.Plan.{BoxPlan, HostPlan}
use Rattle.ds_model.specs.World.{Passed}
use Rattle.ds_model.specs.ConnectionStep.{ConnAsk, ConnWaits, ConnInternal, AsksInlet, AsksArrival, PutsPassed, accept, deliver, delivery_after_reply, passed_of}
use Rattle.ds_inlet.specs.Connections.{Connection, settled}
use Rattle.ds_inlet.specs.PlainConnections.{plain_conn}
use Rattle.ds_inlet.specs.Accepting.{inlet_plan, inlet_scheme}
use Rattle.ds_turn.specs.declared.node.BoxSeat.{BoxSeat}
use Rattle.ds_turn.specs.ConnRecords.{ConnRecord}
use Rattle.ds_turn.specs.ConnTurns.{TookConnTurn, Greeted, Broke, Counted, Put, Judged, place_of}

-- With nothing passed it asks so when it accepts: under every scheme that reads as the connection does, on every running host
-- with its key and inlets, whatever the whole stream of its link is, of which a part arrived.
abbrev pub AcceptsBy : Connection → (List ℕ → ConnAsk) → Type 0
AcceptsBy k ask = (s : Scheme) (plan : HostPlan) (link : List ℕ) →
    accept (inlet_scheme s) (inlet_plan plan k) (plain_conn link None k) k.arrived ≡ ask link

-- and so when it delivers
abbrev pub DeliversBy : Connection → (List ℕ → ConnAsk) → Type 0
DeliversBy k ask = (s : Scheme) (plan : HostPlan) (link : List ℕ) →
    deliver (inlet_scheme s) (inlet_plan plan k) (plain_conn link None k) k.arrived ≡ ask link

abbrev pub slot_in : BoxPlan → ℕ
slot_in b = b.slot

abbrev pub slot_of : BoxSeat → ℕ
slot_of seat = seat.slot

-- With a message passed for that slot, by the names of its categories, it asks when it delivers that the mailbox at that place
-- takes it, where the host's mailboxes have these slots; nothing is passed then.
abbrev pub PutsBy : List BoxSeat → (slot place : ℕ) → Connection → Type 0
PutsBy boxes slot place k = (s : Scheme) (plan : HostPlan) (link : List ℕ) (p : Passed) → map slot_in plan.boxes ≡ map slot_of boxes → p.slot ≡ slot →
    deliver (inlet_scheme s) (inlet_plan plan k) (plain_conn link (Some p) k) k.arrived
    ≡ PutsPassed place p.mail (plain_conn link None (record k { passed = None }))

-- the connection becomes what the plain world's does where no rule fails, or that one does
abbrev pub BecomesBy : LaneCert → Message → List Message → Result LocalMessage Rule → (before after : Connection) → Type 0
BecomesBy lane first rest (Ok mail) k m =
    (link : List ℕ) → plain_conn link (Some (passed_of lane first)) m ≡ delivery_after_reply lane first rest None (plain_conn link None k)
BecomesBy lane first rest (Err rule) k m =
    (link : List ℕ) → plain_conn link None m ≡ delivery_after_reply lane first rest (Some rule) (plain_conn link None k)

-- What the plain world's connection asks, by what the turn did.
abbrev pub Asks : (boxes : List BoxSeat) (a b : ConnRecord) → TookConnTurn boxes a b → Type 0
Asks boxes a b (Greeted t) = AcceptsBy a.conn (λ link. ConnInternal (plain_conn link None b.conn))
Asks boxes a b (Broke t) = AcceptsBy a.conn (λ link. ConnInternal (plain_conn link None b.conn))
Asks boxes a b (Counted t) =
    AcceptsBy a.conn (λ link. AsksInlet t.inlet t.number (plain_conn link None (settled true t.next)) (plain_conn link None (settled false t.next)))
Asks boxes a b (Put t) = (place : ℕ) × (place_of boxes t.slot ≡ Some place) × PutsBy boxes t.slot place a.conn
Asks boxes a b (Judged t) = DeliversBy a.conn (λ link. AsksArrival t.judged.lane t.judged.front t.judged.rest)
    × BecomesBy t.judged.lane t.judged.front t.judged.rest t.verdict a.conn b.conn

-- So it asks where the turn made an event, and waits where it made none.
abbrev pub AsksInTurn : (boxes : List BoxSeat) (a b : ConnRecord) → (made : Bool) → Type 0
AsksInTurn boxes a b true = (turn : TookConnTurn boxes a b) → Asks boxes a b turn
AsksInTurn boxes a b false = AcceptsBy a.conn (λ link. ConnWaits) × DeliversBy a.conn (λ link. ConnWaits)

-- the plain world's connection is the same
abbrev pub IsSamePlain : (before after : Connection) → Type 0
IsSamePlain k m = (link : List ℕ) (passed : Option Passed) → plain_conn link passed m ≡ plain_conn link passed k
