-- A lane's worker in two parts: what it asks, and what it becomes by the answer; and what is printed of it.
use Rattle.std.specs.Prelude.{ℕ, suc, List, [], ◌∷◌, ◌++◌, Option, Some, None, length, map, if◌then◌else◌}
use Rattle.ds_label.specs.declared.rule.Rule.{Rule}
use Rattle.ds_model.specs.Scheme.{Scheme}
use Rattle.ds_model.specs.Plan.{LanePlan}
use Rattle.ds_model.specs.Lane.{LaneEntry, Queued, QueueFull, Lifted}
use Rattle.ds_model.specs.Desk.{Desk}
use Rattle.ds_model.specs.ExporterRules.{sender_rule}
use Rattle.ds_model.specs.World.{Waiting, Worker, LaneLine, QueuedLine, FullLine, FramedLine, DroppedLine}

-- nothing; the first waiting messages; or that the desk judges those in hand again, which it names
pub data LaneAsk : Type 0 where
  WorkerWaits : LaneAsk
  Lifts : LaneAsk
  AsksRecheck : List Waiting → LaneAsk

-- with an empty hand it lifts, where its key has a leaf left
abbrev pub lane_ask_hand : Scheme → LanePlan → Worker → List Waiting → LaneAsk
lane_ask_hand s plan e [] = if s.has_lane_leaf plan.signing e.leaf then Lifts else WorkerWaits
lane_ask_hand s plan e (m ∷ rest) = AsksRecheck (m ∷ rest)

-- what the worker asks, by its hand
abbrev pub lane_ask : Scheme → LanePlan → Worker → LaneAsk
lane_ask s plan e = lane_ask_hand s plan e e.hand

-- the lifted messages are in hand
abbrev pub lifted_after_reply : List Waiting → Worker → Worker
lifted_after_reply ms e = record e { hand = ms }

-- the sending exporter's rule of a message on a lane, at the desk's moment
abbrev pub frame_rule : Scheme → Desk → Waiting → Option Rule
frame_rule s d w = sender_rule s d.addresses d.store d.moment w.message.to w.message.label

-- what the desk answers: of each message, one after another, the rule that fails, or none
abbrev pub rechecked : Scheme → Desk → List Waiting → List (Option Rule)
rechecked s d hand = map (λ w. frame_rule s d w) hand

-- the message before the others, unless its rule fails
abbrev pub unless_fails : Option Rule → Waiting → List Waiting → List Waiting
unless_fails None w rest = w ∷ rest
unless_fails (Some rule) w rest = rest

-- the messages in hand of which no rule fails, by the answer
abbrev pub still_good : List (Option Rule) → List Waiting → List Waiting
still_good [] hand = []
still_good (rule ∷ rules) [] = []
still_good (rule ∷ rules) (w ∷ hand) = unless_fails rule w (still_good rules hand)

-- They become one frame, whose number is the key's next leaf. Where none passes no leaf is used.
abbrev pub with_frame : Scheme → LanePlan → Worker → List Waiting → Worker
with_frame s plan e [] = record e { hand = [] }
with_frame s plan e (m ∷ rest) = record { hand = []; leaf = suc e.leaf; stream = e.stream ++ s.frame plan.signing e.leaf (map (λ w. w.message) (m ∷ rest)) }

-- the worker by the desk's answer
abbrev pub checked_after_reply : Scheme → LanePlan → List (Option Rule) → Worker → Worker
checked_after_reply s plan rules e = with_frame s plan e (still_good rules e.hand)

-- WHAT IS PRINTED

-- a line for a sender's entry, none for a lift
abbrev pub admitted_line : LaneEntry Waiting → List LaneLine
admitted_line (Queued m) = QueuedLine m ∷ []
admitted_line (QueueFull m) = FullLine m ∷ []
admitted_line (Lifted count) = []

-- a line for a message that is dropped, with its rule
abbrev pub dropped_line : Waiting → Option Rule → List LaneLine
dropped_line w None = []
dropped_line w (Some rule) = DroppedLine rule w.sender w.message.slot ∷ []

-- a line for a frame, with its number and how many messages it has
abbrev pub framed_line : ℕ → List Waiting → List LaneLine
framed_line leaf [] = []
framed_line leaf (w ∷ rest) = FramedLine leaf (length (w ∷ rest)) ∷ []

-- a line for each one that is dropped, in order
abbrev pub dropped_lines : List (Option Rule) → List Waiting → List LaneLine
dropped_lines [] hand = []
dropped_lines (rule ∷ rules) [] = []
dropped_lines (rule ∷ rules) (w ∷ hand) = dropped_line w rule ++ dropped_lines rules hand

-- those dropped, and then the frame
abbrev pub checked_lines : List (Option Rule) → Worker → List LaneLine
checked_lines rules e = dropped_lines rules e.hand ++ framed_line e.leaf (still_good rules e.hand)
