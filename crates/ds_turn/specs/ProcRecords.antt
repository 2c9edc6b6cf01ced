-- A process with its record, as contracts see it.
use Rattle.std.specs.Prelude.{ℕ, ◌<◌, List, [], ◌∷◌, ◌++◌, Option, None, length}
use Rattle.ds_script.specs.declared.actor.Actor.{Actor}
use Rattle.ds_script.specs.Process.{Process, ProcView}
use Rattle.ds_msg.specs.declared.message.Message.{Message}
use Rattle.ds_merge.specs.declared.recorded.Recorded.{Recorded}

-- who it is, the process, the judged message that waits for its lane, the stamp of its last event, and its events in order
pub record ProcRecord : Type 0 where
  pub who : Actor
  pub process : Process
  pub hand : Option Message
  pub stamp : ℕ
  pub events : List Recorded

-- the same; 1 where there is memory for the end of an operation, and 1 where there is for a grant; and for how many events
pub record RoomyProc : Type 0 where
  pub proc : ProcRecord
  pub room : ℕ
  pub grant : ℕ
  pub spare : ℕ

-- before its first event
abbrev pub fresh_proc : Actor → Process → ProcRecord
fresh_proc who p = record { who = who; process = p; hand = None; stamp = 0; events = [] }

-- after this event, by which the process became that, with that in its hand
abbrev pub stepped : Process → (hand : Option Message) → Recorded → ProcRecord → ProcRecord
stepped next hand event r = record { who = r.who; process = next; hand = hand; stamp = event.stamp; events = r.events ++ event ∷ [] }

-- there is memory for the end of an operation, for a grant and for an event
pub record HasMemory (r : RoomyProc) : Type 0 where
  pub room : 0 < r.room
  pub grant : 0 < r.grant
  pub spare : 0 < r.spare

-- the script hasn't ended
abbrev pub IsGoing : Process → Type 0
IsGoing p = p.course.place < length p.script

-- the process without what its host keeps of it
abbrev pub view_of : RoomyProc → ProcView
view_of r = record { process = r.proc.process; room = r.room; spare = r.grant }
