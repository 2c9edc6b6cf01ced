-- What an actor at work needs, and what work made of it.
use Rattle.std.specs.Prelude.{◌≡◌, ◌≢◌, ℕ, ◌≤◌, List, Option, Some, None, slice_get}
use Rattle.ds_base.specs.Counts.{Rose}
use Rattle.ds_cert.specs.declared.lane.LaneCert.{LaneCert}
use Rattle.ds_share.specs.declared.desk_act.TurnFault.{TurnFault}
use Rattle.ds_share.specs.declared.desk_act.TurnFault.TheVariants.{KeeperFault, NoMemory}
use Rattle.ds_share.specs.SharedLanes.{IsSameLane}
use Rattle.ds_actor.specs.Sites.{SitePlan}
use Rattle.ds_turn.specs.declared.node.BoxSeat.{BoxSeat}
use Rattle.ds_turn.specs.declared.node.Node.{Node}
use Rattle.ds_turn.specs.Nodes.{seen_of}
use Rattle.ds_turn.specs.ProcAsks.{MayStep}
use Rattle.ds_turn.specs.ProcRecords.{ProcRecord}
use Rattle.ds_turn.specs.ProcTurns.{TookProcTurn}
use Rattle.ds_turn.specs.LaneRecords.{LaneRecord}
use Rattle.ds_turn.specs.LaneTurns.{TookTurn}
use Rattle.ds_turn.specs.ConnRecords.{ConnRecord}
use Rattle.ds_turn.specs.ConnTurns.{LeadsTo}
use Rattle.ds_worker.specs.declared.task.Task.{Task}
use Rattle.ds_worker.specs.declared.task.TaskActor.{TaskActor}
use Rattle.ds_worker.specs.declared.task.TaskActor.TheVariants.{Proc, Lane, Conn}
use Rattle.ds_worker.specs.Runs.{IsSame, Ran, Stopped, Worked}
use Rattle.ds_worker.specs.Logs.{Log, log_of_conn, log_of_lane, log_of_proc}
use Rattle.ds_worker.specs.Actors.{ConnLeft, ConnRan, ConnRests, ConnTurned, LaneRests, ProcRests}

-- WHAT IT NEEDS

-- it is the worker of the lane at that place
pub record IsWorkerOf (lanes : List LaneCert) (place : ℕ) (cert : LaneCert) : Type 0 where
  pub lane : LaneCert
  pub there : slice_get lanes place ≡ Some lane
  pub same : IsSameLane lane cert

-- what a turn of it needs, by its kind
abbrev pub MayTurn : {K : Type 0} → Node → TaskActor K → Type 0
MayTurn node (Proc process keeper) = MayStep (seen_of node) process.proc
MayTurn node (Lane place worker keeper) = IsWorkerOf node.lanes.items place worker.lane.worker.cert
MayTurn node (Conn conn) = LeadsTo node conn.link.conn

-- its host is there, and its actor may make turns on it
pub record MayWork {K : Type 0} (nodes : List Node) (task : Task K) : Type 0 where
  pub node : Node
  pub there : slice_get nodes task.host ≡ Some node
  pub may : MayTurn node task.actor

-- WHAT WORK MADE OF IT

-- so many turns, by the fault that it met, if any
abbrev pub IsMade : {X : Type 0} → (Turn : X → X → Type 0) → (Rest : X → Type 0) → (Left : X → X → Type 0)
    → Option TurnFault → (made : ℕ) → (old new : X) → Type 0
IsMade Turn Rest Left None made old new = Worked Turn Rest made old new
IsMade Turn Rest Left (Some fault) made old new = Stopped Turn Left made old new

abbrev pub ProcMade : SitePlan → Option TurnFault → (made : ℕ) → (old new : ProcRecord) → Type 0
ProcMade site = IsMade (TookProcTurn site) (ProcRests site) IsSame

abbrev pub LaneMade : Option TurnFault → (made : ℕ) → (old new : LaneRecord) → Type 0
LaneMade = IsMade TookTurn LaneRests IsSame

abbrev pub ConnMade : List BoxSeat → Option TurnFault → (made : ℕ) → (old new : ConnRecord) → Type 0
ConnMade boxes = IsMade (ConnTurned boxes) (ConnRests boxes) ConnLeft

-- Its keeper's count of faults didn't fall, and rose where a mark could not be raised; where memory ran out at the first
-- turn the keeper is as it was.
pub record IsKept {K : Type 0} (faults_of : K → ℕ) (fault : Option TurnFault) (made : ℕ) (old new : K) : Type 0 where
  pub counted : faults_of old ≤ faults_of new
  pub rose : fault ≡ Some KeeperFault → Rose (faults_of old) (faults_of new)
  pub spared : fault ≡ Some NoMemory → made ≡ 0 → new ≡ old

-- an actor of the same kind, after so many turns of its kind
abbrev pub IsWorked : {K : Type 0} → (faults_of : K → ℕ) → Node
    → Option TurnFault → (made : ℕ) → (old new : TaskActor K) → Type 0
IsWorked faults_of node fault made (Proc process keeper) (Proc next kept) =
    ProcMade (seen_of node) fault made process.proc next.proc × IsKept faults_of fault made keeper kept
IsWorked faults_of node fault made (Proc process keeper) (Lane place next kept) = ⊥
IsWorked faults_of node fault made (Proc process keeper) (Conn next) = ⊥
IsWorked faults_of node fault made (Lane place worker keeper) (Proc next kept) = ⊥
IsWorked faults_of node fault made (Lane place worker keeper) (Lane same next kept) =
    (same ≡ place) × LaneMade fault made worker.lane next.lane × IsKept faults_of fault made keeper kept
IsWorked faults_of node fault made (Lane place worker keeper) (Conn next) = ⊥
IsWorked faults_of node fault made (Conn conn) (Proc next kept) = ⊥
IsWorked faults_of node fault made (Conn conn) (Lane place next kept) = ⊥
IsWorked faults_of node fault made (Conn conn) (Conn next) =
    ConnMade node.boxes.items fault made conn.link next.link × (fault ≢ Some KeeperFault)

-- So is the task: its actor worked on its host, and the task tells how many events it made and the fault that it met.
pub record HasWorked {K : Type 0} (faults_of : K → ℕ) (nodes : List Node) (a b : Task K) : Type 0 where
  pub host : b.host ≡ a.host
  pub node : Node
  pub there : slice_get nodes a.host ≡ Some node
  pub worked : IsWorked faults_of node b.fault b.made a.actor b.actor

-- MANY PHASES

-- an actor of the same kind, after so many events: turns of its kind, and of a connection arrivals too
abbrev pub HasRun : {K : Type 0} → Node → (count : ℕ) → (old new : TaskActor K) → Type 0
HasRun node count (Proc process keeper) (Proc next kept) =
    Ran (TookProcTurn (seen_of node)) count process.proc next.proc
HasRun node count (Proc process keeper) (Lane place next kept) = ⊥
HasRun node count (Proc process keeper) (Conn next) = ⊥
HasRun node count (Lane place worker keeper) (Proc next kept) = ⊥
HasRun node count (Lane place worker keeper) (Lane same next kept) =
    (same ≡ place) × Ran TookTurn count worker.lane next.lane
HasRun node count (Lane place worker keeper) (Conn next) = ⊥
HasRun node count (Conn conn) (Proc next kept) = ⊥
HasRun node count (Conn conn) (Lane place next kept) = ⊥
HasRun node count (Conn conn) (Conn next) = ConnRan node.boxes.items count conn.link next.link

-- what the actor recorded
abbrev pub log_of_actor : {K : Type 0} → TaskActor K → Log
log_of_actor (Proc process keeper) = log_of_proc process.proc
log_of_actor (Lane place worker keeper) = log_of_lane worker.lane
log_of_actor (Conn conn) = log_of_conn conn.link
