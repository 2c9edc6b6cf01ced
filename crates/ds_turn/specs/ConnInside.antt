-- What the fields of a connection with its record are.
use Rattle.std.specs.Prelude.{◌≡◌, ◌-◌, true, vec_len, vec_capacity}
use Rattle.ds_script.specs.Replay.{last_of, rises}
use Rattle.ds_turn.specs.declared.conn_record.RecordedConn.TheInside.{Inside}
use Rattle.ds_turn.specs.Records.{stamp_of}
use Rattle.ds_turn.specs.ConnRecords.{ConnRecord, RoomyConn}

abbrev pub link_of : Inside → ConnRecord
link_of r = record { conn = r.conn.conn; stamp = r.stamp; events = r.events.items }

abbrev pub roomy_of : Inside → RoomyConn
roomy_of r = record { link = link_of r; entries = r.conn.spare; spare = vec_capacity r.events - vec_len r.events }

-- the stamps of its events rise, and the last one is kept
pub record IsRising (r : Inside) : Type 0 where
  pub rising : rises stamp_of 0 r.events.items ≡ true
  pub last : r.stamp ≡ last_of stamp_of 0 r.events.items
