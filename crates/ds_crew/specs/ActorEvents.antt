-- What actors recorded, as a merge takes it.
use Rattle.std.specs.Prelude.{◌≡◌, true, List, ◌++◌, map, All}
use Rattle.ds_script.specs.declared.actor.Actor.{Actor}
use Rattle.ds_script.specs.Replay.{rises}
use Rattle.ds_merge.specs.declared.recorded.Recorded.{Recorded}
use Rattle.ds_merge.specs.declared.records.ActorRecord.{ActorRecord}
use Rattle.ds_turn.specs.Records.{stamp_of}
use Rattle.ds_turn.specs.ProcRecords.{RoomyProc}
use Rattle.ds_turn.specs.LaneRecords.{RoomyLane}
use Rattle.ds_turn.specs.ConnRecords.{RoomyConn}

-- an actor and its events
pub record ActorEvents : Type 0 where
  pub who : Actor
  pub events : List Recorded

abbrev pub of_record : ActorRecord → ActorEvents
of_record r = record { who = r.who; events = r.events.items }

abbrev pub of_proc : RoomyProc → ActorEvents
of_proc r = record { who = r.proc.who; events = r.proc.events }

abbrev pub of_lane : RoomyLane → ActorEvents
of_lane r = record { who = r.lane.worker.who; events = r.lane.events }

abbrev pub of_conn : RoomyConn → ActorEvents
of_conn r = record { who = r.link.conn.who; events = r.link.events }

-- the stamps are from 1 on, and each is above the one before
abbrev pub IsRising : ActorRecord → Type 0
IsRising r = rises stamp_of 0 r.events.items ≡ true

-- A list of records that grew by those of these actors.
pub record HasMore (more : List ActorEvents) (old new : List ActorRecord) : Type 0 where
  pub records : map of_record new ≡ map of_record old ++ more
  pub rising : All IsRising old → All IsRising new
