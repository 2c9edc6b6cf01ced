-- A lane's worker with its record, as contracts see it.
use Rattle.std.specs.Prelude.{ℕ, List, [], ◌∷◌, ◌++◌}
use Rattle.ds_lane.specs.Workers.{Worker}
use Rattle.ds_merge.specs.declared.recorded.Recorded.{Recorded}

-- the worker, the stamp of its last event, and its events in order
pub record LaneRecord : Type 0 where
  pub worker : Worker
  pub stamp : ℕ
  pub events : List Recorded

-- the same, and for how many entries of the worker and how many events there is memory
pub record RoomyLane : Type 0 where
  pub lane : LaneRecord
  pub entries : ℕ
  pub spare : ℕ

-- before its first event
abbrev pub fresh_lane : Worker → LaneRecord
fresh_lane e = record { worker = e; stamp = 0; events = [] }

-- after this event, by which the worker became that
abbrev pub recorded : Worker → Recorded → LaneRecord → LaneRecord
recorded next event r = record { worker = next; stamp = event.stamp; events = r.events ++ event ∷ [] }
