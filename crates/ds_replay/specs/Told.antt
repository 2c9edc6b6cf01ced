-- What the object that an event asks hands out, as a value: the message taken, the messages lifted, the desk's reply or its
-- judgement, whether a number is fresh.
use Rattle.std.specs.Prelude.{ℕ, Option, Some, None, slice_get}
use Rattle.ds_model.specs.Scheme.{Scheme}
use Rattle.ds_model.specs.Plan.{HostPlan, Plan, host_plan, lane_plan, conn_plan, receiving_host}
use Rattle.ds_model.specs.World.{Process, Worker, Conn, Host, World}
use Rattle.ds_model.specs.ProcessStep.{ask}
use Rattle.ds_model.specs.WorkerStep.{lane_ask}
use Rattle.ds_model.specs.ConnectionStep.{ConnAsk, accept, deliver}
use Rattle.ds_model.specs.Step.{Event, Step, Frame, Arrive, Accept, Deliver, Tick, Inject, Copy, arrived}
use Rattle.ds_model.specs.Replies.{ActorReply, Nothing, proc_reply, worker_reply, conn_reply}
use Rattle.ds_replay.specs.Touches.{host_of}

-- to a process that may not be there
abbrev pub answer_to_proc : Scheme → HostPlan → Host → (proc : ℕ) → Option Process → ActorReply
answer_to_proc s plan x p None = Nothing
answer_to_proc s plan x p (Some y) = proc_reply s plan x (ask plan p y)

-- to a lane's worker that may not be there
abbrev pub answer_to_worker : Scheme → HostPlan → Host → (lane : ℕ) → Option Worker → ActorReply
answer_to_worker s plan x l None = Nothing
answer_to_worker s plan x l (Some e) = worker_reply s x l (lane_ask s (lane_plan plan l) e)

-- to a connection that may not be there
abbrev pub answer_to_conn : Scheme → HostPlan → (Conn → ConnAsk) → Host → Option Conn → ActorReply
answer_to_conn s plan asks x None = Nothing
answer_to_conn s plan asks x (Some y) = conn_reply s plan x (asks y)

-- to the actor of an event on this host; a tick, and bytes that come, are answered by nobody
abbrev pub answer_at : Scheme → Plan → World → Event → Host → ActorReply
answer_at s plan w (Step h p) x = answer_to_proc s (host_plan plan h) x p (slice_get x.procs p)
answer_at s plan w (Frame h l) x = answer_to_worker s (host_plan plan h) x l (slice_get x.workers l)
answer_at s plan w (Accept k) x = answer_to_conn s (receiving_host plan k)
    (λ conn. accept s (receiving_host plan k) conn (arrived w (conn_plan plan k).source conn)) x (slice_get w.conns k)
answer_at s plan w (Deliver k) x = answer_to_conn s (receiving_host plan k)
    (λ conn. deliver s (receiving_host plan k) conn (arrived w (conn_plan plan k).source conn)) x (slice_get w.conns k)
answer_at s plan w (Arrive k n) x = Nothing
answer_at s plan w (Tick h t) x = Nothing
answer_at s plan w (Inject k bytes) x = Nothing
answer_at s plan w (Copy k j from until) x = Nothing

-- on a host that may not be there
abbrev pub answer_in : Scheme → Plan → World → Event → Option Host → ActorReply
answer_in s plan w e None = Nothing
answer_in s plan w e (Some x) = answer_at s plan w e x

-- what the step of an event is answered
abbrev pub answer : Scheme → Plan → World → Event → ActorReply
answer s plan w e = answer_in s plan w e (slice_get w.hosts (host_of plan e))
