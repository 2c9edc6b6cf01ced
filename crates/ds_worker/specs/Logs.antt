-- What every actor records of itself, and how that grows.
use Rattle.std.specs.Prelude.{◌≡◌, ℕ, true, List, ◌++◌, Option, Some, None, All, length}
use Rattle.ds_script.specs.declared.actor.Actor.{Actor}
use Rattle.ds_script.specs.Replay.{last_of, rises}
use Rattle.ds_merge.specs.declared.kept.Kept.{Kept}
use Rattle.ds_merge.specs.declared.recorded.Recorded.{Recorded}
use Rattle.ds_turn.specs.Records.{stamp_of}
use Rattle.ds_turn.specs.ProcRecords.{ProcRecord}
use Rattle.ds_turn.specs.LaneRecords.{LaneRecord}
use Rattle.ds_turn.specs.ConnRecords.{ConnRecord}

-- who it is, the stamp of its last event, and its events in order
pub record Log : Type 0 where
  pub who : Actor
  pub stamp : ℕ
  pub events : List Recorded

abbrev pub log_of_proc : ProcRecord → Log
log_of_proc r = record { who = r.who; stamp = r.stamp; events = r.events }

abbrev pub log_of_lane : LaneRecord → Log
log_of_lane r = record { who = r.worker.who; stamp = r.stamp; events = r.events }

abbrev pub log_of_conn : ConnRecord → Log
log_of_conn r = record { who = r.conn.who; stamp = r.stamp; events = r.events }

-- the entry that an event made, if any, is of its actor and at its stamp
abbrev pub IsEntryOf : Recorded → Option Kept → Type 0
IsEntryOf e None = Unit {0}
IsEntryOf e (Some k) = (k.who ≡ e.who) × (k.stamp ≡ e.stamp)

-- an event of this actor
pub record IsEventOf (who : Actor) (e : Recorded) : Type 0 where
  pub actor : e.who ≡ who
  pub entry : IsEntryOf e e.touched

-- So many events of the actor more are behind the old ones, and their stamps rise above its last one.
pub record Grew (count : ℕ) (old new : Log) : Type 0 where
  pub who : new.who ≡ old.who
  pub more : List Recorded
  pub events : new.events ≡ old.events ++ more
  pub counted : length more ≡ count
  pub own : All (IsEventOf old.who) more
  pub rising : rises stamp_of old.stamp more ≡ true
  pub last : new.stamp ≡ last_of stamp_of old.stamp more
