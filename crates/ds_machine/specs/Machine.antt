-- The plain world as the machine of a merge: which event a recorded one is, what the world is after it, whether it changes
-- anything, the entry that it makes, and what is handed out.
use Rattle.std.specs.Prelude.{ℕ, zero, suc, ◌==◌, ◌&&◌, Bool, true, false, List, [], Option, Some, None, option_map, length, take, drop, slice_get, bytes_eq, if◌then◌else◌}
use Rattle.std.specs.Int.{w64, from_be_bytes}
use Rattle.ds_script.specs.declared.actor.ActorKind.{ActorKind}
use Rattle.ds_script.specs.declared.actor.ActorKind.TheVariants.{Clock, Proc, Lane, Conn}
use Rattle.ds_model.specs.Scheme.{Scheme}
use Rattle.ds_model.specs.Plan.{HostPlan, Plan, host_plan, lane_plan, conn_plan, receiving_host}
use Rattle.ds_model.specs.World.{Process, Worker, Host, World}
use Rattle.ds_model.specs.World as worlds
use Rattle.ds_model.specs.ProcessStep.{ask}
use Rattle.ds_model.specs.WorkerStep.{lane_ask}
use Rattle.ds_model.specs.ConnectionStep.{ConnAsk, accept, deliver}
use Rattle.ds_model.specs.Step.{Event, Step, Frame, Arrive, Accept, Deliver, Tick, Inject, Copy, stream_at, arrived, step}
use Rattle.ds_model.specs.Schedule.{changes}
use Rattle.ds_merge.specs.declared.kept.Kept.{Kept}
use Rattle.ds_merge.specs.declared.recorded.Recorded.{Recorded}
use Rattle.ds_replay.specs.Touches.{host_of, touch}
use Rattle.ds_machine.specs.Spelled.{kept_of, given_to_ask, given_to_lane_ask, given_to_conn_ask}

-- WHICH EVENT

-- the event where the act is this one, without bytes
abbrev pub if_act : (act wanted : ℕ) → (body : List ℕ) → Option Event → Option Event
if_act act wanted body e = if (act == wanted) && (length body == 0) then e else None

-- a frame of the lane with this number
abbrev pub frame_of : (host number : ℕ) → Option Event
frame_of h zero = None
frame_of h (suc l) = Some (Frame h l)

-- an event of a connection
abbrev pub conn_event : (conn act : ℕ) → (body : List ℕ) → Option Event
conn_event k act body =
    if act == 3
    then Some (Arrive k (length body))
    else if act == 4
    then if_act act 4 body (Some (Accept k))
    else if_act act 5 body (Some (Deliver k))

-- an event of an actor, by its kind, host and index; none where the act isn't one of its kind, or the bytes aren't the act's
abbrev pub event_by : Plan → ActorKind → (host index act : ℕ) → (body : List ℕ) → Option Event
event_by plan Proc h i act body = if_act act 1 body (Some (Step h i))
event_by plan Lane h i act body = if_act act 2 body (frame_of h i)
event_by plan Conn h i act body = if (conn_plan plan i).host == h then conn_event i act body else None
event_by plan Clock h i act body = if (act == 6) && ((i == 0) && (length body == 8)) then Some (Tick h (from_be_bytes w64 body)) else None

-- the event that was recorded, if it is one
abbrev pub event_of : Plan → Recorded → Option Event
event_of plan r = event_by plan r.who.kind r.who.host r.who.index r.act r.body

-- WHAT IT DOES

-- the world after an event that may be none
abbrev pub after_event : Scheme → Plan → World → Option Event → World
after_event s plan w None = w
after_event s plan w (Some e) = step s plan w e

-- the world after a recorded event
abbrev pub after : Scheme → Plan → World → Recorded → World
after s plan w r = after_event s plan w (event_of plan r)

-- how many bytes arrived on a connection that may not be there
abbrev pub count_of : Option worlds.Conn → ℕ
count_of None = 0
count_of (Some y) = y.count

-- bytes that arrive are the next ones of the connection's stream
abbrev pub are_next : Plan → World → Event → (body : List ℕ) → Bool
are_next plan w (Arrive k n) body =
    bytes_eq (take n (drop (count_of (slice_get w.conns k)) (stream_at w plan k (slice_get w.conns k)))) body
are_next plan w (Step h p) body = true
are_next plan w (Frame h l) body = true
are_next plan w (Accept k) body = true
are_next plan w (Deliver k) body = true
are_next plan w (Tick h t) body = true
are_next plan w (Inject k bytes) body = true
are_next plan w (Copy k j from until) body = true

-- whether an event that may be none changes the world
abbrev pub event_moves : Scheme → Plan → World → (body : List ℕ) → Option Event → Bool
event_moves s plan w body None = false
event_moves s plan w body (Some e) = changes s plan w e && are_next plan w e body

-- whether a recorded event changes the world
abbrev pub moves : Scheme → Plan → World → Recorded → Bool
moves s plan w r = event_moves s plan w r.body (event_of plan r)

-- the entry that an event makes, if any
abbrev pub event_entry : Scheme → Plan → World → Recorded → Option Event → Option Kept
event_entry s plan w r None = None
event_entry s plan w r (Some e) = option_map (kept_of plan w r.who r.stamp) (touch s plan w e)

-- the entry that a recorded event makes, if any
abbrev pub entry : Scheme → Plan → World → Recorded → Option Kept
entry s plan w r = event_entry s plan w r (event_of plan r)

-- WHAT IS HANDED OUT

-- to a process that may not be there
abbrev pub given_to_proc : Scheme → HostPlan → Host → (proc : ℕ) → Option Process → List ℕ
given_to_proc s plan x p None = []
given_to_proc s plan x p (Some y) = given_to_ask s plan x (ask plan p y)

-- to a lane's worker that may not be there
abbrev pub given_to_worker : Scheme → HostPlan → Host → (lane : ℕ) → Option Worker → List ℕ
given_to_worker s plan x l None = []
given_to_worker s plan x l (Some e) = given_to_lane_ask s x l (lane_ask s (lane_plan plan l) e)

-- to a connection that may not be there
abbrev pub given_to_conn : Scheme → HostPlan → (worlds.Conn → ConnAsk) → Host → Option worlds.Conn → List ℕ
given_to_conn s plan asks x None = []
given_to_conn s plan asks x (Some y) = given_to_conn_ask s plan x (asks y)

-- to the actor of an event on this host
abbrev pub given_at : Scheme → Plan → World → Event → Host → List ℕ
given_at s plan w (Step h p) x = given_to_proc s (host_plan plan h) x p (slice_get x.procs p)
given_at s plan w (Frame h l) x = given_to_worker s (host_plan plan h) x l (slice_get x.workers l)
given_at s plan w (Accept k) x = given_to_conn s (receiving_host plan k)
    (λ conn. accept s (receiving_host plan k) conn (arrived w (conn_plan plan k).source conn)) x (slice_get w.conns k)
given_at s plan w (Deliver k) x = given_to_conn s (receiving_host plan k)
    (λ conn. deliver s (receiving_host plan k) conn (arrived w (conn_plan plan k).source conn)) x (slice_get w.conns k)
given_at s plan w (Arrive k n) x = []
given_at s plan w (Tick h t) x = []
given_at s plan w (Inject k bytes) x = []
given_at s plan w (Copy k j from until) x = []

-- on a host that may not be there
abbrev pub given_in : Scheme → Plan → World → Event → Option Host → List ℕ
given_in s plan w e None = []
given_in s plan w e (Some x) = given_at s plan w e x

-- to the actor of an event that may be none
abbrev pub event_given : Scheme → Plan → World → Option Event → List ℕ
event_given s plan w None = []
event_given s plan w (Some e) = given_in s plan w e (slice_get w.hosts (host_of plan e))

-- what is handed out at a recorded event
abbrev pub answer : Scheme → Plan → World → Recorded → List ℕ
answer s plan w r = event_given s plan w (event_of plan r)
