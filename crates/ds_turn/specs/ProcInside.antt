-- What the fields of a process with its record are.
use Rattle.std.specs.Prelude.{◌≡◌, ◌-◌, true, vec_len, vec_capacity}
use Rattle.ds_script.specs.Replay.{last_of, rises}
use Rattle.ds_turn.specs.declared.proc_record.RecordedProc.TheInside.{Inside}
use Rattle.ds_turn.specs.Records.{stamp_of}
use Rattle.ds_turn.specs.ProcRecords.{ProcRecord, RoomyProc}

abbrev pub proc_of : Inside → ProcRecord
proc_of r = record { who = r.who; process = r.process.process; hand = r.hand; stamp = r.stamp; events = r.events.items }

abbrev pub roomy_of : Inside → RoomyProc
roomy_of r = record { proc = proc_of r; room = r.process.room; grant = r.process.spare; spare = vec_capacity r.events - vec_len r.events }

-- the stamps of its events rise, and the last one is kept
pub record IsRising (r : Inside) : Type 0 where
  pub rising : rises stamp_of 0 r.events.items ≡ true
  pub last : r.stamp ≡ last_of stamp_of 0 r.events.items
