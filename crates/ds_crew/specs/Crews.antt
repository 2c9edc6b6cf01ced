-- An exporter's parts as its threads take them: what they share, and its actors.
use Rattle.std.specs.Prelude.{◌≡◌, ℕ, suc, List, [], ◌∷◌, map, All}
use Rattle.std.specs.List.{AllZip}
use Rattle.ds_cert.specs.declared.lane.LaneCert.{LaneCert}
use Rattle.ds_share.specs.SharedLanes.{IsSameLane}
use Rattle.ds_exporter.specs.HostStates.{HostLane, HostProcess, HostState}
use Rattle.ds_exporter.specs.PlainHosts.{name_of_inlet}
use Rattle.ds_exporter.specs.Sites.{fixed_in}
use Rattle.ds_exporter.specs.Stepping.{proc_actor}
use Rattle.ds_turn.specs.declared.node.Node.{Node}
use Rattle.ds_turn.specs.Nodes.{seen_of}
use Rattle.ds_turn.specs.ProcRecords.{ProcRecord, RoomyProc}
use Rattle.ds_turn.specs.LaneRecords.{LaneRecord, RoomyLane, fresh_lane}
use Rattle.ds_turn.specs.ConnRecords.{ConnRecord, RoomyConn, fresh_conn}
use Rattle.ds_turn.specs.ProcAsks.{MayStep}
use Rattle.ds_turn.specs.ConnTurns.{LeadsTo, name_of_seat}
use Rattle.ds_crew.specs.declared.crew.Crew.{Crew}

-- ---- an exporter's actors, with nothing recorded

-- a process at its place, with its hand
abbrev pub begun_proc : (host place : ℕ) → HostProcess → ProcRecord
begun_proc host place x = record { who = proc_actor host place; process = x.process; hand = x.hand; stamp = 0; events = [] }

-- processes from a place on
abbrev pub begun_procs : (host place : ℕ) → List HostProcess → List ProcRecord
begun_procs host place [] = []
begun_procs host place (x ∷ xs) = begun_proc host place x ∷ begun_procs host (suc place) xs

abbrev pub begun_lane : HostLane → LaneRecord
begun_lane l = fresh_lane l.worker

-- a recorded actor without the room that its lists have taken
abbrev pub proc_in : RoomyProc → ProcRecord
proc_in r = r.proc

abbrev pub lane_in : RoomyLane → LaneRecord
lane_in r = r.lane

abbrev pub link_in : RoomyConn → ConnRecord
link_in r = r.link

-- ---- what a crew is

-- What the threads share is the exporter's: its place, its key, all keys, its mailboxes' slots, owners and labels, its lanes'
-- certificates, and its inlets' names, in their order. What lies behind locks isn't seen.
pub record IsNodeOf (e : HostState) (n : Node) : Type 0 where
  pub host : n.host ≡ e.host
  pub seen : seen_of n ≡ fixed_in e
  pub inlets : map name_of_seat n.inlets.items ≡ map name_of_inlet e.inlets

-- The actors are the exporter's, in their order.
pub record HasActorsOf (e : HostState) (c : Crew) : Type 0 where
  pub procs : map proc_in c.procs.items ≡ begun_procs e.host 0 e.procs
  pub lanes : map lane_in c.lanes.items ≡ map begun_lane e.lanes
  pub conns : map link_in c.conns.items ≡ map fresh_conn e.conns

-- a worker is of the lane with that certificate
abbrev pub IsWorkerOf : LaneCert → RoomyLane → Type 0
IsWorkerOf cert w = IsSameLane cert w.lane.worker.cert

-- Each actor may take turns over what is shared: a process may step, the worker at a place is of the lane there, and a connection
-- leads to this host.
pub record MayTakeTurns (c : Crew) : Type 0 where
  pub procs : All (λ r. MayStep (seen_of c.node) r.proc) c.procs.items
  pub lanes : AllZip IsWorkerOf c.node.lanes.items c.lanes.items
  pub conns : All (λ r. LeadsTo c.node r.link.conn) c.conns.items
