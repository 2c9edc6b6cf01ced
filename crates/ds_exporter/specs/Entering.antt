-- Which entry an event makes: at most one, in the history of the object that it touches in the plain world. All other histories
-- of the host stay as they are.
use Rattle.std.specs.Prelude.{◌≡◌, ℕ, List, Some, ◌++◌, length, map, slice_get}
use Rattle.std.specs.List.{AllByRecursion}
use Rattle.ds_label.specs.declared.category.PubKey.{PubKey}
use Rattle.ds_label.specs.declared.category.Category.{Category}
use Rattle.ds_script.specs.declared.actor.Actor.{Actor}
use Rattle.ds_model.specs.World.{Waiting}
use Rattle.ds_model.specs.Lane.{LaneEntry as LaneChange, Queued, QueueFull, Lifted}
use Rattle.ds_model.specs.ConnectionStep.{accept, deliver}
use Rattle.ds_model.specs.Access.{Access, box_entry, lane_entry, inlet_entry, desk_entry, access_of_proc, access_of_lane, access_of_conn_ask, access_of_clock}
use Rattle.ds_desk.specs.Desks.{entry_of as desk_entry_of}
use Rattle.ds_box.specs.declared.entry.BoxEntry.{BoxEntry}
use Rattle.ds_lane.specs.declared.batch.Waiting.{Waiting as SentMessage}
use Rattle.ds_lane.specs.declared.worker_entry.WorkerEntry.{WorkerEntry}
use Rattle.ds_lane.specs.Lanes.{entry_of as lane_entry_of}
use Rattle.ds_inlet.specs.Inlets.{CountedLane, entry_of as inlet_entry_of}
use Rattle.ds_scheme.specs.TheScheme.{scheme}
use Rattle.ds_exporter.specs.HostStates.{HostBox, HostLane, HostState}
use Rattle.ds_exporter.specs.PlainHosts.{arrived_at, conn_at, host_of, plain_entry, site_of}

-- WHAT AN EVENT TOUCHES, in the plain world

-- a step of the process at a place
abbrev pub step_access : (place : ℕ) → HostState → Access
step_access p e = access_of_proc scheme (site_of e) (host_of e) p (slice_get (host_of e).procs p)

-- a frame event of the lane at a place
abbrev pub frame_access : (place : ℕ) → HostState → Access
frame_access p e = access_of_lane scheme (site_of e) (host_of e) p (slice_get (host_of e).workers p)

-- the connection at a place that accepts, whose link's stream is this one
abbrev pub accept_access : (link : List ℕ) → (place : ℕ) → HostState → Access
accept_access link place e = access_of_conn_ask (site_of e) (host_of e)
    (accept scheme (site_of e) (conn_at link place e) (arrived_at place e))

-- and the one that delivers
abbrev pub deliver_access : (link : List ℕ) → (place : ℕ) → HostState → Access
deliver_access link place e = access_of_conn_ask (site_of e) (host_of e)
    (deliver scheme (site_of e) (conn_at link place e) (arrived_at place e))

-- a tick of the clock
abbrev pub tick_access : (to : ℕ) → HostState → Access
tick_access to e = access_of_clock (site_of e) e.desk.desk.moment to

-- LISTS

-- so many in the one list as in the other, and what is at a place of the one and at that place of the other
abbrev pub AtEachPlace : {X : Type 0} → (ℕ → X → X → Type 0) → (old new : List X) → Type 0
AtEachPlace {X} P old new = (length new ≡ length old)
    × ((place : ℕ) (x y : X) → slice_get old place ≡ Some x → slice_get new place ≡ Some y → P place x y)

-- HISTORIES, which go on by what this actor enters at this stamp

abbrev pub IsBoxEntryOf : (stamp : ℕ) → Actor → BoxEntry → Type 0
IsBoxEntryOf stamp who entry = (entry.stamp ≡ stamp) × (entry.who ≡ who)

-- A mailbox's: its entries have the host's own numbers, and by the names of the table they are the plain world's.
pub record BoxGoesOn (stamp : ℕ) (who : Actor) (here : PubKey) (rows : List Category) (access : Access) (place : ℕ) (a b : HostBox)
    : Type 0 where
  pub more : List BoxEntry
  pub history : b.mailbox.history ≡ a.mailbox.history ++ more
  pub own : AllByRecursion (IsBoxEntryOf stamp who) more
  pub names : map (plain_entry here rows) more ≡ box_entry place access

-- a message on a lane as the lane has it
abbrev pub sent_message : Waiting → SentMessage
sent_message w = record { from = w.sender; message = w.message }

abbrev pub lane_change : LaneChange Waiting → LaneChange SentMessage
lane_change (Queued w) = Queued (sent_message w)
lane_change (QueueFull w) = QueueFull (sent_message w)
lane_change (Lifted count) = Lifted count

-- a lane's
abbrev pub LaneGoesOn : (stamp : ℕ) → Actor → Access → (place : ℕ) → (a b : HostLane) → Type 0
LaneGoesOn stamp who access place a b = b.lane.history
    ≡ a.lane.history ++ map (lane_entry_of stamp who) (map lane_change (lane_entry place access))

-- its worker's, which is no shared object: all entries there are its own
abbrev pub IsWorkerEntryAt : (stamp : ℕ) → WorkerEntry → Type 0
IsWorkerEntryAt stamp entry = entry.stamp ≡ stamp

abbrev pub WorkerGoesOn : (stamp place : ℕ) → (a b : HostLane) → Type 0
WorkerGoesOn stamp place a b = (more : List WorkerEntry)
    × (b.worker.entries ≡ a.worker.entries ++ more) × AllByRecursion (IsWorkerEntryAt stamp) more

-- an inlet's
abbrev pub InletGoesOn : (stamp : ℕ) → Actor → Access → (place : ℕ) → (a b : CountedLane) → Type 0
InletGoesOn stamp who access place a b = b.history ≡ a.history ++ map (inlet_entry_of stamp who) (inlet_entry place access)

-- THE HOST: each history goes on by the entry that is its own, if one is, by the names of the table before the event
pub record Enters (stamp : ℕ) (who : Actor) (access : Access) (old new : HostState) : Type 0 where
  pub desk : new.desk.history ≡ old.desk.history ++ map (desk_entry_of stamp who) (desk_entry access)
  pub boxes : AtEachPlace (BoxGoesOn stamp who old.desk.here old.desk.desk.rows access) old.boxes new.boxes
  pub lanes : AtEachPlace (LaneGoesOn stamp who access) old.lanes new.lanes
  pub workers : AtEachPlace (WorkerGoesOn stamp) old.lanes new.lanes
  pub inlets : AtEachPlace (InletGoesOn stamp who access) old.inlets new.inlets
