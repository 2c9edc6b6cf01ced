-- A lane with its history. What an entry does, and when it may stand, is the model's.
use Rattle.std.specs.Prelude.{◌≡◌, ℕ, ◌≤◌, true, List, [], ◌∷◌, ◌++◌, length, min, All, Option, Some}
use Rattle.ds_cert.specs.declared.lane.LaneCert.{LaneCert}
use Rattle.ds_script.specs.declared.actor.Actor.{Actor}
use Rattle.ds_script.specs.Replay.{replay, last_of, rises}
use Rattle.ds_msg.specs.declared.message.Message.{Message}
use Rattle.ds_msg.specs.Ranges.{MessageRange}
use Rattle.ds_model.specs.Lane.{Queued as QueuedOne, QueueFull, Lifted as LiftedMany, frame_limit, lane_after, lane_step, LaneEntry as Change}
use Rattle.ds_lane.specs.declared.batch.Waiting.{Waiting}
use Rattle.ds_lane.specs.declared.entry.LaneEntry.{LaneEntry}
use Rattle.ds_lane.specs.declared.entry.LaneAct.{LaneAct}
use Rattle.ds_lane.specs.declared.entry.LaneAct.TheVariants.{Queued, Full, Lifted}

-- its certificate and room; what waited at its opening, and the last stamp before; its entries since; what waits
pub record Lane : Type 0 where
  pub cert : LaneCert
  pub room : ℕ
  pub opening : List Waiting
  pub before : ℕ
  pub history : List LaneEntry
  pub waiting : List Waiting

-- a lane, and for how many calls there is memory
pub record LaneWithCapacity : Type 0 where
  pub lane : Lane
  pub spare : ℕ

-- an entry's act is the model's entry
abbrev pub change_of : LaneAct → Change Waiting
change_of (Queued w) = QueuedOne w
change_of (Full w) = QueueFull w
change_of (Lifted count) = LiftedMany count

abbrev pub act_of : Change Waiting → LaneAct
act_of (QueuedOne w) = Queued w
act_of (QueueFull w) = Full w
act_of (LiftedMany count) = Lifted count

abbrev pub entry_of : ℕ → Actor → Change Waiting → LaneEntry
entry_of stamp who change = record { stamp = stamp; who = who; act = act_of change }

-- what waits after an entry, or none where it may not stand
abbrev pub history_step : ℕ → List Waiting → LaneEntry → Option (List Waiting)
history_step room waiting entry = lane_step room waiting (change_of entry.act)

abbrev pub stamp_of : LaneEntry → ℕ
stamp_of entry = entry.stamp

-- the stamp of the last entry, or of the last one before the opening
abbrev pub last_stamp : Lane → ℕ
last_stamp l = last_of stamp_of l.before l.history

-- a message of a process
abbrev pub sent_by : (from : ℕ) → Message → Waiting
sent_by from message = record { from = from; message = message }

-- A message of the certificate's lane: it goes to its receiver, has its label, and has a spelling.
pub record IsOn (cert : LaneCert) (m : Message) : Type 0 where
  pub to : m.to ≡ cert.receiver
  pub label : m.label ≡ cert.label
  pub range : MessageRange m

abbrev pub WaitsOn : LaneCert → Waiting → Type 0
WaitsOn cert w = IsOn cert w.message

abbrev pub ActsOn : LaneCert → LaneAct → Type 0
ActsOn cert (Queued w) = WaitsOn cert w
ActsOn cert (Full w) = WaitsOn cert w
ActsOn cert (Lifted count) = Unit {0}

-- what waits is the replay of the history, and its stamps rise
pub record IsReplay (l : Lane) : Type 0 where
  pub replays : replay (history_step l.room) l.opening l.history ≡ Some l.waiting
  pub rises : rises stamp_of l.before l.history ≡ true
  pub fits : length l.waiting ≤ l.room
  pub on_waiting : All (WaitsOn l.cert) l.waiting
  pub on_opening : All (WaitsOn l.cert) l.opening
  pub on_history : All (λ entry. ActsOn l.cert entry.act) l.history

-- before any entry
abbrev pub fresh_lane : LaneCert → ℕ → Lane
fresh_lane cert room = record { cert = cert; room = room; opening = []; before = 0; history = []; waiting = [] }

-- after an entry
abbrev pub entered : ℕ → Actor → Change Waiting → Lane → Lane
entered stamp who change l = record l { history = l.history ++ entry_of stamp who change ∷ []; waiting = lane_after change l.waiting }

-- the entry of a lift: all that wait, and at most 16
abbrev pub lift_entry : List Waiting → Change Waiting
lift_entry waiting = LiftedMany (min frame_limit (length waiting))

-- the present state is the opening
abbrev pub checkpointed : Lane → Lane
checkpointed l = record l { opening = l.waiting; before = last_stamp l; history = [] }
