-- How far a connection has read what arrived, and that a call of read is the plain world's accept.
use Rattle.std.specs.Prelude.{◌≡◌, ℕ, Bool, true, false, List, [], ◌∷◌, ◌++◌, length, Option, Some, None, Result, Ok, Err}
use Rattle.ds_label.specs.declared.rule.Rule.{Rule}
use Rattle.ds_label.specs.declared.category.PubKey.{PubKey}
use Rattle.ds_script.specs.declared.actor.Actor.{Actor}
use Rattle.ds_cert.specs.declared.lane.LaneCert.{LaneCert}
use Rattle.ds_msg.specs.declared.local.LocalMessage.{LocalMessage}
use Rattle.ds_frame.specs.declared.item.Failure.{Failure}
use Rattle.ds_frame.specs.declared.item.Item.{Item}
use Rattle.ds_frame.specs.declared.item.ReadEnd.{ReadEnd}
use Rattle.ds_frame.specs.declared.item.ReadEnd.TheVariants as ends
use Rattle.ds_frame.specs.SoFar.{IsSoFar}
use Rattle.ds_model.specs.Scheme.{Scheme, InletName, Item as Seen, Hello}
use Rattle.ds_model.specs.Plan.{HostPlan}
use Rattle.ds_model.specs.ConnectionStep.{ConnAsk, ConnWaits, ConnInternal, AsksInlet, accept}
use Rattle.ds_inlet.specs.declared.offer.Offer.{Offer}
use Rattle.ds_inlet.specs.declared.offer.Offer.TheVariants as offers
use Rattle.ds_inlet.specs.Hosts.{host_reading, seen_of_items, items_of, ending_of}
use Rattle.ds_inlet.specs.Reads.{frame_read}
use Rattle.ds_inlet.specs.OfferedFrames.{OfferedFrame}
use Rattle.ds_inlet.specs.Connections.{Connection, HasInlet, IsForInlet, lane_inlet_of, new_connection, arrived_more, read_step, settled, passed_on, refused_by}
use Rattle.ds_inlet.specs.PlainConnections.{plain_conn, taken_of}

-- the hello was read first; where none was, nothing was read
abbrev pub BeginsWith : Option LaneCert → List Seen → Type 0
BeginsWith None read = read ≡ []
BeginsWith (Some lane) read = (later : List Seen) × (read ≡ Hello lane ∷ later)

-- a stream of which a frame is offered isn't broken yet
abbrev pub IsFine : Option OfferedFrame → Option Failure → Type 0
IsFine None failure = Unit {0}
IsFine (Some o) failure = failure ≡ None

-- Of all that arrived, the connection took these items and offers the next one, and whatever follows, the reader goes on there.
pub record IsReadSoFar (k : Connection) : Type 0 where
  pub handed : List Item
  pub items : List Seen
  pub so_far : IsSoFar (host_reading k.here k.inlets) k.arrived handed k.reader
  pub seen : seen_of_items k.here k.inlets handed ≡ items ++ frame_read k.offered
  pub begins : BeginsWith k.reader.lane (seen_of_items k.here k.inlets handed)
  pub count : length items ≡ taken_of k
  pub fine : IsFine k.offered k.reader.failure

-- it is so of a new connection, and stays so in every call
pub record StaysReadSoFar : Type 0 where
  pub new : (who : Actor) (here : PubKey) (inlets : List InletName) → IsReadSoFar (new_connection who here inlets)
  pub arrives : (piece : List ℕ) (k : Connection) → IsReadSoFar k → IsReadSoFar (arrived_more piece k)
  pub reads : (k : Connection) → IsReadSoFar k → IsReadSoFar (read_step k).conn
  pub settles : (fresh : Bool) (k : Connection) → IsReadSoFar k → IsReadSoFar (settled fresh k)
  pub passes : (message : LocalMessage) (k : Connection) → IsReadSoFar k → IsReadSoFar (passed_on message k)
  pub drops : (rule : Rule) (k : Connection) → IsReadSoFar k → IsReadSoFar (refused_by rule k)
  pub hands : (passed : Option (ℕ × LocalMessage)) (k : Connection) → IsReadSoFar k → IsReadSoFar (record k { passed = passed })

-- any scheme, with what a connection needs of it; any running host, with the connection's key and inlets
abbrev pub inlet_scheme : Scheme → Scheme
inlet_scheme s = record s { items = items_of; ending = ending_of }

abbrev pub inlet_plan : HostPlan → Connection → HostPlan
inlet_plan plan k = record plan { key = k.here; silent = false; inlets = k.inlets }

-- a stream that breaks makes the connection fail; one that was broken before changes nothing
abbrev pub FailsOnce : (link : List ℕ) → Option Failure → (after : Connection) → ConnAsk → Type 0
FailsOnce link None after ask = ask ≡ ConnInternal (plain_conn link None after)
FailsOnce link (Some failure) after ask = ask ≡ ConnWaits

-- What a call of read, on a connection with this failure before, says of the plain world's accept. An offered frame asks the
-- inlet, and what becomes of it is settled by the answer.
abbrev pub Accepts : (link : List ℕ) → Option Failure → Result Offer ReadEnd → (after : Connection) → ConnAsk → Type 0
Accepts link failure (Ok offers.Hello) after ask = ask ≡ ConnInternal (plain_conn link None after)
Accepts link failure (Ok (offers.Frame inlet number)) after ask = ask ≡ AsksInlet inlet number (plain_conn link None (settled true after)) (plain_conn link None (settled false after))
Accepts link failure (Err ends.NotYet) after ask = ask ≡ ConnWaits
Accepts link failure (Err (ends.BadFrame cause place)) after ask = FailsOnce link failure after ask
Accepts link failure (Err ends.NoMemory) after ask = Unit {0}

-- a connection with nothing in hand or passed accepts as the plain world's does, also where a frame was offered before
abbrev pub IsPlainAccept : Type 0
IsPlainAccept = (s : Scheme) (plan : HostPlan) (link : List ℕ) (k : Connection) → IsReadSoFar k → HasInlet k.inlets k.reader.lane → IsForInlet (lane_inlet_of k.inlets k.reader.lane) k.offered → k.hand ≡ []
    → Accepts link k.reader.failure (read_step k).answer (read_step k).conn (accept (inlet_scheme s) (inlet_plan plan k) (plain_conn link None k) k.arrived)
