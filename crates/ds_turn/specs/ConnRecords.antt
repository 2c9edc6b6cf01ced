-- A connection with its record, as contracts see it.
use Rattle.std.specs.Prelude.{ℕ, List, [], ◌∷◌, ◌++◌}
use Rattle.ds_inlet.specs.Connections.{Connection}
use Rattle.ds_merge.specs.declared.recorded.Recorded.{Recorded}

-- the connection, the stamp of its last event, and its events in order
pub record ConnRecord : Type 0 where
  pub conn : Connection
  pub stamp : ℕ
  pub events : List Recorded

-- the same, and for how many entries of the connection and how many events there is memory
pub record RoomyConn : Type 0 where
  pub link : ConnRecord
  pub entries : ℕ
  pub spare : ℕ

-- before its first event
abbrev pub fresh_conn : Connection → ConnRecord
fresh_conn k = record { conn = k; stamp = 0; events = [] }

-- after this event, by which the connection became that
abbrev pub recorded : Connection → Recorded → ConnRecord → ConnRecord
recorded next event r = record { conn = next; stamp = event.stamp; events = r.events ++ event ∷ [] }

-- with another connection, and no event more
abbrev pub with_conn : Connection → ConnRecord → ConnRecord
with_conn next r = record r { conn = next }
