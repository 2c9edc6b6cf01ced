-- The laws of what events touch, for every scheme, plan and world.
use Rattle.std.specs.Prelude.{◌≡◌, ℕ, ◌≤◌, true, false, List, Some, None, length, slice_get, option_map}
use Rattle.ds_script.specs.Replay.{replay}
use Rattle.ds_model.specs.Scheme.{Scheme}
use Rattle.ds_model.specs.Plan.{HostPlan, Plan, host_plan, box_plan, lane_plan, conn_plan, receiving_host}
use Rattle.ds_model.specs.World.{Host, World}
use Rattle.ds_model.specs.ProcessStep.{ask, box_of}
use Rattle.ds_model.specs.WorkerStep.{lane_ask}
use Rattle.ds_model.specs.ConnectionStep.{accept, deliver}
use Rattle.ds_model.specs.Step.{Event, Step, Frame, Accept, Deliver, arrived, worker_at, step, run}
use Rattle.ds_model.specs.Views.{IsStill, proc_at}
use Rattle.ds_model.specs.Replies.{proc_after_reply, worker_after_reply, conn_after_reply}
use Rattle.ds_replay.specs.Objects.{Object, MailboxAt, after_change, state_at}
use Rattle.ds_replay.specs.Touches.{Touch, host_of, touch, change_of, changes_of, is_inner}
use Rattle.ds_replay.specs.Told.{answer}

-- Each object of each host is after the step what the event's change makes of it, where the event touched it, and else as it was.
abbrev pub OneObject : Type 0
OneObject = (s : Scheme) (plan : Plan) (w : World) (e : Event) (h : ℕ) (object : Object) →
    replay (after_change s (host_plan plan h) object) (state_at w h object) (change_of h object (touch s plan w e))
    ≡ Some (state_at (step s plan w e) h object)

-- Along a run each object is the replay of the changes that the events made of it.
abbrev pub RunsReplay : Type 0
RunsReplay = (s : Scheme) (plan : Plan) (w : World) (events : List Event) (h : ℕ) (object : Object) →
    replay (after_change s (host_plan plan h) object) (state_at w h object) (changes_of s plan w events h object)
    ≡ Some (state_at (run s plan w events) h object)

-- An event touches an object of its own host.
abbrev pub TouchesOwnHost : Type 0
TouchesOwnHost = (s : Scheme) (plan : Plan) (w : World) (e : Event) (t : Touch) → touch s plan w e ≡ Some t → t.host ≡ host_of plan e

-- A mailbox that is touched is the first one of its slot, so that its slot names it.
abbrev pub SlotsName : Type 0
SlotsName = (s : Scheme) (plan : Plan) (w : World) (e : Event) (t : Touch) (b : ℕ) → touch s plan w e ≡ Some t → t.object ≡ MailboxAt b →
    box_of (host_plan plan t.host) (box_plan (host_plan plan t.host) b).slot ≡ Some b

-- An event that changes nothing touches nothing.
abbrev pub StillTouchesNothing : Type 0
StillTouchesNothing = (s : Scheme) (plan : Plan) (w : World) (e : Event) → IsStill s plan w e → touch s plan w e ≡ None

-- Neither does a step inside an actor, nor bytes that come.
abbrev pub InnerTouchesNothing : Type 0
InnerTouchesNothing = (s : Scheme) (plan : Plan) (w : World) (e : Event) → is_inner s plan w e ≡ true → touch s plan w e ≡ None

-- the host has each mailbox, each lane and each inlet of its plan
pub record HasObjects (plan : HostPlan) (x : Host) : Type 0 where
  pub boxes : length plan.boxes ≤ length x.boxes
  pub queues : length plan.lanes ≤ length x.queues
  pub inlets : length plan.inlets ≤ length x.inlets

-- And these are all, where hosts have what their plans say: an event that touches nothing, and isn't its actor's own affair, changes
-- nothing.
-- So a judgement, a refusal, a full mailbox, a full lane and a stale number are entered too, though they leave the object as it was.
abbrev pub ElseIsStill : Type 0
ElseIsStill = (s : Scheme) (plan : Plan) (w : World) (e : Event) →
    ((h : ℕ) (x : Host) → slice_get w.hosts h ≡ Some x → HasObjects (host_plan plan h) x) →
    touch s plan w e ≡ None → is_inner s plan w e ≡ false → IsStill s plan w e

-- A process becomes what it asked and the answer alone say.
abbrev pub ProcessesLearn : Type 0
ProcessesLearn = (s : Scheme) (plan : Plan) (w : World) (h p : ℕ) →
    proc_at (step s plan w (Step h p)) h p
    ≡ option_map (λ y. proc_after_reply (ask (host_plan plan h) p y) (answer s plan w (Step h p)) y) (proc_at w h p)

-- So does a lane's worker.
abbrev pub WorkersLearn : Type 0
WorkersLearn = (s : Scheme) (plan : Plan) (w : World) (h l : ℕ) →
    worker_at (slice_get (step s plan w (Frame h l)).hosts h) l
    ≡ option_map (λ e. worker_after_reply s (host_plan plan h) l (lane_ask s (lane_plan (host_plan plan h) l) e)
    (answer s plan w (Frame h l)) e) (worker_at (slice_get w.hosts h) l)

-- So does a connection that leads to a host.
abbrev pub ConnectionsLearn : Type 0
ConnectionsLearn = (s : Scheme) (plan : Plan) (w : World) (k : ℕ) (x : Host) → slice_get w.hosts (conn_plan plan k).host ≡ Some x →
    (slice_get (step s plan w (Accept k)).conns k
    ≡ option_map (λ y. conn_after_reply (accept s (receiving_host plan k) y (arrived w (conn_plan plan k).source y))
    (answer s plan w (Accept k)) y) (slice_get w.conns k))
    × (slice_get (step s plan w (Deliver k)).conns k
    ≡ option_map (λ y. conn_after_reply (deliver s (receiving_host plan k) y (arrived w (conn_plan plan k).source y))
    (answer s plan w (Deliver k)) y) (slice_get w.conns k))
