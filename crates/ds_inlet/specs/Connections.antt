-- A connection, and what its calls make of it.
use Rattle.std.specs.Prelude.{◌≡◌, ℕ, ◌+◌, ◌-◌, Bool, true, false, List, [], ◌∷◌, ◌++◌, length, Option, Some, None, is_some, Result, Ok, Err}
use Rattle.std.specs.List.{All}
use Rattle.ds_label.specs.declared.category.PubKey.{PubKey}
use Rattle.ds_label.specs.declared.rule.Rule.{Rule}
use Rattle.ds_script.specs.declared.actor.Actor.{Actor}
use Rattle.ds_script.specs.Fits.{IsShort}
use Rattle.ds_cert.specs.declared.lane.LaneCert.{LaneCert}
use Rattle.ds_msg.specs.declared.message.Message.{Message}
use Rattle.ds_msg.specs.Ranges.{MessageRange}
use Rattle.ds_msg.specs.declared.local.LocalMessage.{LocalMessage}
use Rattle.ds_frame.specs.declared.cause.Cause.{Cause}
use Rattle.ds_frame.specs.declared.item.Failure.{Failure}
use Rattle.ds_frame.specs.declared.item.ReadEnd.{ReadEnd}
use Rattle.ds_frame.specs.declared.item.ReadEnd.TheVariants as ends
use Rattle.ds_frame.specs.Fields.{ReadFault, Open, Broken}
use Rattle.ds_frame.specs.Reader.{Reader, fed, new_reader}
use Rattle.ds_model.specs.Scheme.{InletName, Item as Seen, Hello, Framed}
use Rattle.ds_inlet.specs.Hosts.{inlet_at, seen_reading}
use Rattle.ds_inlet.specs.declared.offer.Offer.{Offer}
use Rattle.ds_inlet.specs.declared.offer.Offer.TheVariants as offers
use Rattle.ds_inlet.specs.declared.offer.ConnEntry.{ConnEntry}
use Rattle.ds_inlet.specs.declared.offer.ConnEntry.TheVariants as entries
use Rattle.ds_inlet.specs.OfferedFrames.{OfferedFrame}

-- The actor for which it stands, its host's key and inlets; all bytes that arrived, and how far they are read; the frame that
-- is offered; the messages of the last fresh frame that aren't judged yet; the one that was judged and isn't put yet, with its
-- slot; and its entries.
pub record Connection : Type 0 where
  pub who : Actor
  pub here : PubKey
  pub inlets : List InletName
  pub arrived : List ℕ
  pub reader : Reader
  pub offered : Option OfferedFrame
  pub hand : List Message
  pub passed : Option (ℕ × LocalMessage)
  pub entries : List ConnEntry

-- a connection, for how many entries there is memory, and for how many bytes
pub record ConnectionWithCapacity : Type 0 where
  pub conn : Connection
  pub spare : ℕ
  pub space : ℕ

-- before any byte
abbrev pub new_connection : Actor → PubKey → List InletName → Connection
new_connection who here inlets = record { who = who; here = here; inlets = inlets; arrived = []; reader = new_reader; offered = None; hand = []; passed = None; entries = [] }

-- after more bytes
abbrev pub arrived_more : List ℕ → Connection → Connection
arrived_more piece k = record k { arrived = k.arrived ++ piece; reader = fed piece k.reader }

-- READ

-- an offer stands: after a hello none, after a frame the frame with this inlet and number
abbrev pub IsOfferedAt : (inlet number : ℕ) → Option OfferedFrame → Type 0
IsOfferedAt inlet number None = ⊥
IsOfferedAt inlet number (Some o) = (o.inlet ≡ inlet) × (o.number ≡ number)

abbrev pub IsOffered : Offer → Option OfferedFrame → Type 0
IsOffered offers.Hello offered = offered ≡ None
IsOffered (offers.Frame inlet number) offered = IsOfferedAt inlet number offered

-- what a call of read answers, and the connection after it
pub record ReadStep : Type 0 where
  pub answer : Result Offer ReadEnd
  pub conn : Connection

-- a place, or 0
abbrev pub place_or_0 : Option ℕ → ℕ
place_or_0 None = 0
place_or_0 (Some place) = place

-- the inlet of the lane whose certificate was read, if there is one
abbrev pub lane_inlet_of : List InletName → Option LaneCert → Option ℕ
lane_inlet_of inlets None = None
lane_inlet_of inlets (Some lane) = inlet_at inlets lane

-- The inlet of the lane whose certificate was read. Where a frame is read there is one, since its hello was admitted.
abbrev pub lane_inlet : List InletName → Option LaneCert → ℕ
lane_inlet inlets lane = place_or_0 (lane_inlet_of inlets lane)

-- the lane whose certificate was read has an inlet
abbrev pub HasInlet : List InletName → Option LaneCert → Type 0
HasInlet inlets None = Unit {0}
HasInlet inlets (Some lane) = is_some (inlet_at inlets lane) ≡ true

-- an offered frame is for the inlet at that place
abbrev pub IsForInlet : Option ℕ → Option OfferedFrame → Type 0
IsForInlet place None = Unit {0}
IsForInlet place (Some o) = place ≡ Some o.inlet

-- each message of an offered frame is in range
abbrev pub AreOfferedInRange : Option OfferedFrame → Type 0
AreOfferedInRange None = Unit {0}
AreOfferedInRange (Some o) = All MessageRange o.messages

-- the payload of a message over a host's numbers is in range
abbrev pub IsShortMessage : LocalMessage → Type 0
IsShortMessage m = IsShort m.payload

abbrev pub IsShortPassed : Option (ℕ × LocalMessage) → Type 0
IsShortPassed None = Unit {0}
IsShortPassed (Some p) = IsShortMessage p.1

-- A hello that was read has an inlet, and a frame that is offered is for that inlet; the messages are in range.
pub record IsAccepted (k : Connection) : Type 0 where
  pub lane : HasInlet k.inlets k.reader.lane
  pub offered : IsForInlet (lane_inlet_of k.inlets k.reader.lane) k.offered
  pub offered_range : AreOfferedInRange k.offered
  pub hand : All MessageRange k.hand
  pub passed : IsShortPassed k.passed

-- what a host sees is for it: a hello whose lane has an inlet, and a frame only after a hello
abbrev pub IsForHost : List InletName → Option LaneCert → Seen → Type 0
IsForHost inlets before (Hello lane) = is_some (inlet_at inlets lane) ≡ true
IsForHost inlets before (Framed number messages) = is_some before ≡ true

-- the messages of a frame are in range
abbrev pub AreSeenInRange : Seen → Type 0
AreSeenInRange (Hello lane) = Unit {0}
AreSeenInRange (Framed number messages) = All MessageRange messages

-- after a hello its lane has an inlet, and a frame is for the inlet at that place
abbrev pub IsForLane : Offer → Option ℕ → Type 0
IsForLane offers.Hello place = is_some place ≡ true
IsForLane (offers.Frame inlet number) place = place ≡ Some inlet

-- read as far as these bytes are left
abbrev pub read_past : Option LaneCert → List ℕ → Reader → Reader
read_past lane rest r = record r { rest = rest; passed = r.passed + (length r.rest - length rest); lane = lane }

abbrev pub frame_seen : Connection → (number : ℕ) → List Message → OfferedFrame
frame_seen k number messages = record { inlet = lane_inlet k.inlets k.reader.lane; number = number; messages = messages }

-- a hello is taken, and a frame offered
abbrev pub seen_step : Connection → Seen → List ℕ → ReadStep
seen_step k (Hello lane) rest = record { answer = Ok offers.Hello; conn = record k { reader = read_past (Some lane) rest k.reader } }
seen_step k (Framed number messages) rest = record { answer = Ok (offers.Frame (lane_inlet k.inlets k.reader.lane) number); conn = record k { reader = read_past k.reader.lane rest k.reader; offered = Some (frame_seen k number messages) } }

-- a broken stream fails for ever
abbrev pub reading_step : Connection → Result (Seen × List ℕ) ReadFault → ReadStep
reading_step k (Ok x) = seen_step k x.0 x.1
reading_step k (Err Open) = record { answer = Err ends.NotYet; conn = k }
reading_step k (Err (Broken cause offset)) = record { answer = Err (ends.BadFrame cause (k.reader.passed + offset)); conn = record k { reader = record k.reader { failure = Some (record { cause = cause; place = k.reader.passed + offset }) } } }

abbrev pub step_unless_failed : Option Failure → Connection → ReadStep
step_unless_failed None k = reading_step k (seen_reading k.here k.inlets k.reader.lane k.reader.rest)
step_unless_failed (Some failure) k = record { answer = Err (ends.BadFrame failure.cause failure.place); conn = k }

-- an offered frame stays offered
abbrev pub step_unless_offered : Option OfferedFrame → Connection → ReadStep
step_unless_offered None k = step_unless_failed k.reader.failure k
step_unless_offered (Some o) k = record { answer = Ok (offers.Frame o.inlet o.number); conn = k }

abbrev pub read_step : Connection → ReadStep
read_step k = step_unless_offered k.offered k

-- What a call of read did: what the definition says, or nothing where memory ran out.
abbrev pub Reads : (before : Connection) → Result Offer ReadEnd → (after : Connection) → Type 0
Reads before (Err ends.NoMemory) after = after ≡ before
Reads before (Err ends.NotYet) after = read_step before ≡ record { answer = Err ends.NotYet; conn = after }
Reads before (Err (ends.BadFrame cause place)) after = read_step before ≡ record { answer = Err (ends.BadFrame cause place); conn = after }
Reads before (Ok offer) after = read_step before ≡ record { answer = Ok offer; conn = after }

-- failed at that place for ever, unless memory ran out
abbrev pub FailsAt : (before : Connection) → Cause → (place : ℕ) → ReadEnd → (after : Connection) → Type 0
FailsAt before cause place ends.NoMemory after = after ≡ before
FailsAt before cause place ends.NotYet after = ⊥
FailsAt before cause place (ends.BadFrame c p) after = (c ≡ cause) × (p ≡ place) × (after ≡ record before { reader = record before.reader { failure = Some (record { cause = cause; place = place }) } })

-- failed for ever, unless memory ran out
abbrev pub Fails : (before : Connection) → Cause → (offset : ℕ) → ReadEnd → (after : Connection) → Type 0
Fails before cause offset end after = FailsAt before cause (before.reader.passed + offset) end after

-- THE OTHER CALLS

-- after an entry
abbrev pub with_entry : ConnEntry → Connection → Connection
with_entry entry k = record k { entries = k.entries ++ entry ∷ [] }

-- an offered frame's messages go to the hand, where it is fresh, or are dropped with it
abbrev pub settled_as : Bool → Option OfferedFrame → Connection → Connection
settled_as fresh None k = k
settled_as true (Some o) k = with_entry (entries.Frame o.number (length o.messages)) (record k { offered = None; hand = o.messages })
settled_as false (Some o) k = with_entry (entries.Stale o.number) (record k { offered = None })

abbrev pub settled : Bool → Connection → Connection
settled fresh k = settled_as fresh k.offered k

-- the first message of the hand passes
abbrev pub passed_from : LocalMessage → List Message → Connection → Connection
passed_from message [] k = k
passed_from message (first ∷ rest) k = with_entry (entries.Pass first.slot) (record k { hand = rest; passed = Some (first.slot, message) })

abbrev pub passed_on : LocalMessage → Connection → Connection
passed_on message k = passed_from message k.hand k

-- the first message of the hand is dropped
abbrev pub refused_from : Rule → List Message → Connection → Connection
refused_from rule [] k = k
refused_from rule (first ∷ rest) k = with_entry (entries.Drop rule first.slot) (record k { hand = rest })

abbrev pub refused_by : Rule → Connection → Connection
refused_by rule k = refused_from rule k.hand k
