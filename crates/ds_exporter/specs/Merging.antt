-- A lane's printed lines: those of its senders and those of its worker, by their stamps.
use Rattle.std.specs.Prelude.{ℕ, List, [], ◌∷◌, map, nat_lt, if◌then◌else◌}
use Rattle.std.specs.List.{flat_map}
use Rattle.ds_model.specs.World.{Waiting, LaneLine, QueuedLine, FullLine, FramedLine, DroppedLine}
use Rattle.ds_lane.specs.declared.batch.Waiting.{Waiting as SentMessage}
use Rattle.ds_lane.specs.declared.entry.LaneAct.{LaneAct}
use Rattle.ds_lane.specs.declared.entry.LaneAct.TheVariants.{Queued, Full, Lifted}
use Rattle.ds_lane.specs.declared.entry.LaneEntry.{LaneEntry}
use Rattle.ds_lane.specs.declared.worker_entry.WorkerAct.{WorkerAct}
use Rattle.ds_lane.specs.declared.worker_entry.WorkerAct.TheVariants.{Framed, Dropped}
use Rattle.ds_lane.specs.declared.worker_entry.WorkerEntry.{WorkerEntry}

-- a message on a lane
abbrev pub plain_waiting : SentMessage → Waiting
plain_waiting w = record { sender = w.from; message = w.message }

-- a line and its stamp
pub record Stamped : Type 0 where
  pub stamp : ℕ
  pub line : LaneLine

-- the line of a sender's entry; none for a lift
abbrev pub act_lines : ℕ → LaneAct → List Stamped
act_lines stamp (Queued w) = record { stamp = stamp; line = QueuedLine (plain_waiting w) } ∷ []
act_lines stamp (Full w) = record { stamp = stamp; line = FullLine (plain_waiting w) } ∷ []
act_lines stamp (Lifted count) = []

abbrev pub entry_lines : LaneEntry → List Stamped
entry_lines entry = act_lines entry.stamp entry.act

-- the line of the worker's entry
abbrev pub worker_line : WorkerAct → LaneLine
worker_line (Framed number count) = FramedLine number count
worker_line (Dropped rule from slot) = DroppedLine rule from slot

abbrev pub worker_stamped : WorkerEntry → Stamped
worker_stamped entry = record { stamp = entry.stamp; line = worker_line entry.act }

-- both lists by the stamps; of two lines with one stamp the first list's comes first
abbrev pub woven : Stamped → (List Stamped → List Stamped) → List Stamped → List Stamped
woven x rest [] = x ∷ rest []
woven x rest (y ∷ ys) = if nat_lt y.stamp x.stamp then y ∷ woven x rest ys else x ∷ rest (y ∷ ys)

abbrev pub merged : List Stamped → List Stamped → List Stamped
merged [] ys = ys
merged (x ∷ xs) ys = woven x (merged xs) ys

abbrev pub line_of : Stamped → LaneLine
line_of x = x.line

-- the lines of these entries
abbrev pub lines_of : List LaneEntry → List WorkerEntry → List LaneLine
lines_of senders worker = map line_of (merged (flat_map entry_lines senders) (map worker_stamped worker))
