-- What the fields of a lane's worker with its record are.
use Rattle.std.specs.Prelude.{◌≡◌, ◌-◌, true, vec_len, vec_capacity}
use Rattle.ds_script.specs.Replay.{last_of, rises}
use Rattle.ds_turn.specs.declared.lane_record.RecordedLane.TheInside.{Inside}
use Rattle.ds_turn.specs.Records.{stamp_of}
use Rattle.ds_turn.specs.LaneRecords.{LaneRecord, RoomyLane}

abbrev pub lane_of : Inside → LaneRecord
lane_of r = record { worker = r.end.worker; stamp = r.stamp; events = r.events.items }

abbrev pub roomy_of : Inside → RoomyLane
roomy_of r = record { lane = lane_of r; entries = r.end.spare; spare = vec_capacity r.events - vec_len r.events }

-- the stamps of its events rise, and the last one is kept
pub record IsRising (r : Inside) : Type 0 where
  pub rising : rises stamp_of 0 r.events.items ≡ true
  pub last : r.stamp ≡ last_of stamp_of 0 r.events.items
