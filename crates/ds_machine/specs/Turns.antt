-- What a lane's worker records of its turns, held against the machine.
use Rattle.std.specs.Prelude.{◌≡◌, ℕ, suc, true, List, ◌∷◌, [], Some, map, slice_get, All}
use Rattle.ds_script.specs.declared.actor.Actor.{Actor}
use Rattle.ds_script.specs.declared.actor.ActorKind.TheVariants.{Lane}
use Rattle.ds_model.specs.Scheme.{Scheme}
use Rattle.ds_model.specs.Plan.{Plan, host_plan, lane_plan}
use Rattle.ds_model.specs.Lane.{front}
use Rattle.ds_model.specs.Desk.{Desk}
use Rattle.ds_model.specs.World.{Waiting, Worker, Host, World}
use Rattle.ds_model.specs.WorkerStep.{frame_rule, rechecked}
use Rattle.ds_share.specs.declared.desk_act.DeskReply.TheVariants.{Found}
use Rattle.ds_share.specs.Desks.{judged}
use Rattle.ds_merge.specs.declared.recorded.Recorded.{Recorded}
use Rattle.ds_turn.specs.LaneTurns.{lift_event, judge_event}
use Rattle.ds_machine.specs.Spelled.{on_lane}
use Rattle.ds_machine.specs.Machine.{entry, answer}

-- the machine makes the entry that was recorded, and hands out what was recorded
pub record Tells (s : Scheme) (plan : Plan) (w : World) (r : Recorded) : Type 0 where
  pub entry : entry s plan w r ≡ r.touched
  pub answer : answer s plan w r ≡ r.given

-- the worker of the lane at a place
abbrev pub worker_of : (host lane : ℕ) → Actor
worker_of h l = record { kind = Lane; host = h; index = suc l }

-- A worker with an empty hand and a leaf left lifts the messages that wait longest, and records how many they are and what they are.
abbrev pub LiftsAreRecorded : Type 0
LiftsAreRecorded = (s : Scheme) (plan : Plan) (w : World) (h l stamp : ℕ) (x : Host) (e : Worker) (m : Waiting) (waiting : List Waiting) →
    slice_get w.hosts h ≡ Some x → slice_get x.workers l ≡ Some e → slice_get x.queues l ≡ Some (m ∷ waiting) →
    e.hand ≡ [] → s.has_lane_leaf (lane_plan (host_plan plan h) l).signing e.leaf ≡ true →
    Tells s plan w (lift_event (worker_of h l) stamp (map on_lane (front (m ∷ waiting))))

-- One with messages in hand asks the desk, and records its look and its judgement of the first of them, wherever the receiver is reached.
abbrev pub ChecksAreRecorded : Type 0
ChecksAreRecorded = (s : Scheme) (plan : Plan) (w : World) (h l stamp : ℕ) (x : Host) (e : Worker) (m : Waiting)
    (hand : List Waiting) (address : List ℕ) →
    slice_get w.hosts h ≡ Some x → slice_get x.workers l ≡ Some e → e.hand ≡ m ∷ hand →
    Tells s plan w (judge_event (worker_of h l) stamp (judged (frame_rule s x.desk m) (Found address)))

-- a message with the receiver and the label of another one
pub record IsFellow (m n : Waiting) : Type 0 where
  pub to : n.message.to ≡ m.message.to
  pub label : n.message.label ≡ m.message.label

-- Of messages with one receiver and one label, as those of a lane are, one judgement is that of each.
abbrev pub JudgedAsOne : Type 0
JudgedAsOne = (s : Scheme) (d : Desk) (m : Waiting) (hand : List Waiting) → All (IsFellow m) hand →
    rechecked s d hand ≡ map (λ n. frame_rule s d m) hand
