-- What arrives between phases: of each lane's stream the bytes that haven't arrived.
use Rattle.std.specs.Prelude.{◌≡◌, ◌⊎◌, ℕ, ◌+◌, ◌<◌, ◌≤◌, List, [], ◌∷◌, drop, length, sum_by, Option, Some, None, slice_get, slice_index_or, slice_set}
use Rattle.ds_share.specs.Receipts.{next_stamp}
use Rattle.ds_inlet.specs.Connections.{arrived_more}
use Rattle.ds_turn.specs.LaneRecords.{LaneRecord}
use Rattle.ds_turn.specs.ConnRecords.{ConnRecord, recorded}
use Rattle.ds_turn.specs.ConnTurns.{arrive_event}
use Rattle.ds_worker.specs.declared.task.Task.{Task}
use Rattle.ds_worker.specs.declared.task.TaskActor.{TaskActor}
use Rattle.ds_worker.specs.declared.task.TaskActor.TheVariants.{Proc, Lane, Conn}
use Rattle.ds_worker.specs.Tasks.{log_of_actor}

-- WHOSE STREAM IS READ

-- the record of a lane's worker
abbrev pub lane_in : {K : Type 0} → TaskActor K → Option LaneRecord
lane_in (Proc process keeper) = None
lane_in (Lane place worker keeper) = Some worker.lane
lane_in (Conn conn) = None

abbrev pub lane_in_task : {K : Type 0} → Option (Task K) → Option LaneRecord
lane_in_task None = None
lane_in_task (Some task) = lane_in task.actor

-- the lane at a place among the tasks, if a place is given and a lane's worker is there
abbrev pub source_in : {K : Type 0} → List (Task K) → Option ℕ → Option LaneRecord
source_in tasks None = None
source_in tasks (Some place) = lane_in_task (slice_get tasks place)

-- the bytes of its stream behind so many; none where there is no lane, or nothing that reads it
abbrev pub bytes_left : Option LaneRecord → (arrived : Option ℕ) → List ℕ
bytes_left None arrived = []
bytes_left (Some lane) None = []
bytes_left (Some lane) (Some arrived) = drop arrived lane.worker.stream

-- the stamp of its last event, 0 where there is no lane
abbrev pub last_stamp : Option LaneRecord → ℕ
last_stamp None = 0
last_stamp (Some lane) = lane.stamp

-- how many bytes arrived at a connection; other actors read nothing
abbrev pub arrived_at : {K : Type 0} → TaskActor K → Option ℕ
arrived_at (Proc process keeper) = None
arrived_at (Lane place worker keeper) = None
arrived_at (Conn conn) = Some (length conn.link.conn.arrived)

-- WHAT ARRIVES

-- after these bytes, as one arrival above its last stamp and this one; where there are none nothing is recorded
abbrev pub after_arrival : List ℕ → (least : ℕ) → ConnRecord → ConnRecord
after_arrival [] least r = r
after_arrival (byte ∷ bytes) least r =
    recorded (arrived_more (byte ∷ bytes) r.conn) (arrive_event r.conn.who (next_stamp r.stamp least) (byte ∷ bytes)) r

-- a connection took these bytes; any other actor is as it was
abbrev pub TookBytes : {K : Type 0} → List ℕ → (least : ℕ) → (old new : TaskActor K) → Type 0
TookBytes piece least (Proc process keeper) new = new ≡ Proc process keeper
TookBytes piece least (Lane place worker keeper) new = new ≡ Lane place worker keeper
TookBytes piece least (Conn conn) (Proc process keeper) = ⊥
TookBytes piece least (Conn conn) (Lane place worker keeper) = ⊥
TookBytes piece least (Conn conn) (Conn next) = next.link ≡ after_arrival piece least conn.link

-- So did the actor of a task, and the rest of the task is as it was.
pub record IsGiven {K : Type 0} (piece : List ℕ) (least : ℕ) (a b : Task K) : Type 0 where
  pub host : b.host ≡ a.host
  pub made : b.made ≡ a.made
  pub fault : b.fault ≡ a.fault
  pub actor : TookBytes piece least a.actor b.actor

-- What is left of the lane's stream arrived, at a stamp above the lane's last one.
abbrev pub HasArrived : {K : Type 0} → Option LaneRecord → (a b : Task K) → Type 0
HasArrived source a b = IsGiven (bytes_left source (arrived_at a.actor)) (last_stamp source) a b

-- EVENTS

-- how many events an actor recorded
abbrev pub events_of : {K : Type 0} → Task K → ℕ
events_of task = length (log_of_actor task.actor).events

-- how many events all actors recorded
abbrev pub events_in : {K : Type 0} → List (Task K) → ℕ
events_in tasks = sum_by events_of tasks

-- ALL OF THEM

-- whose stream the actor at a place reads, by a list that gives for each the place of the lane
abbrev pub source_at : {K : Type 0} → (feeds : List (Option ℕ)) → List (Task K) → (i : ℕ) → Option LaneRecord
source_at feeds tasks i = source_in tasks (slice_index_or feeds i None)

-- So many arrivals came: each connection got exactly what was left of its lane's stream, of which nothing is left then. Where
-- there was none nothing changed.
pub record AllArrived {K : Type 0} (feeds : List (Option ℕ)) (made : ℕ) (old new : List (Task K)) : Type 0 where
  pub few : made ≤ length old
  pub each : (i : ℕ) (d : Task K) → i < length old
      → HasArrived (source_at feeds old i) (slice_index_or old i d) (slice_index_or new i d)
  pub whole : (i : ℕ) (d : Task K) → i < length old
      → bytes_left (source_at feeds new i) (arrived_at (slice_index_or new i d).actor) ≡ []
  pub events : events_in new ≡ events_in old + made
  pub still : made ≡ 0 → (i : ℕ) (d : Task K) → i < length old → IsGiven [] 0 (slice_index_or old i d) (slice_index_or new i d)

-- what is left where memory ran out: each connection got what was left of its lane's stream, or nothing
pub record IsFedOrNot {K : Type 0} (source : Option LaneRecord) (a b : Task K) : Type 0 where
  pub from : Option LaneRecord
  pub is : (from ≡ source) ⊎ (from ≡ None)
  pub fed : HasArrived from a b

abbrev pub SomeArrived : {K : Type 0} → (feeds : List (Option ℕ)) → (old new : List (Task K)) → Type 0
SomeArrived feeds old new = (i : ℕ) (d : _) → i < length old
    → IsFedOrNot (source_at feeds old i) (slice_index_or old i d) (slice_index_or new i d)

-- At one place what is left of that lane's stream arrived, as so many events, at most one.
pub record ArrivedOne {K : Type 0} (place : ℕ) (source : Option LaneRecord) (made : ℕ) (old new : List (Task K)) : Type 0 where
  pub was : Task K
  pub there : slice_get old place ≡ Some was
  pub task : Task K
  pub becomes : new ≡ slice_set old place task
  pub one : made ≤ 1
  pub fed : HasArrived source was task
  pub events : events_of task ≡ events_of was + made
  pub still : made ≡ 0 → IsGiven [] 0 was task
