-- What the object that an actor asks answers, and what the actor becomes by that answer alone.
use Rattle.std.specs.Prelude.{◌≡◌, ℕ, Bool, List, Option, slice_get, option_map, if◌then◌else◌}
use Rattle.ds_label.specs.declared.category.Category.{Category}
use Rattle.ds_label.specs.declared.rule.Rule.{Rule}
use Rattle.ds_model.specs.Scheme.{Scheme}
use Rattle.ds_model.specs.Plan.{HostPlan, lane_plan}
use Rattle.ds_model.specs.Desk.{Reply, act_entry, reply_of}
use Rattle.ds_model.specs.World.{Process, Mail, Waiting, Worker, Conn, Host}
use Rattle.ds_model.specs.ProcessStep.{Ask, Waits, Internal, Put, Admit, TakeFrom, PublicAct, AsksJudgement, taken_after_reply, act_after_reply, judged_after_reply}
use Rattle.ds_model.specs.WorkerStep.{LaneAsk, WorkerWaits, Lifts, AsksRecheck, rechecked, lifted_after_reply, checked_after_reply}
use Rattle.ds_model.specs.ConnectionStep.{ConnAsk, ConnWaits, ConnInternal, AsksInlet, AsksArrival, PutsPassed, judge_delivery, delivery_after_reply}
use Rattle.ds_model.specs.Step.{perform, perform_lane, perform_conn, oldest_in, front_of, fresh_in, judged, attached}

-- nothing; a mailbox's oldest message; the desk's reply to an act; its judgement of a send, with the certificates
-- that go with it; the first waiting messages; its judgement of each message in a worker's hand; whether a number is
-- fresh; the judgement of an arrival
pub data ActorReply : Type 0 where
  Nothing : ActorReply
  Oldest : Option (Mail Category) → ActorReply
  Replied : Reply → ActorReply
  Judged : List (List ℕ) → Option Rule → ActorReply
  Front : List Waiting → ActorReply
  Rechecked : List (Option Rule) → ActorReply
  IsFresh : Bool → ActorReply
  Ruled : Option Rule → ActorReply

-- A process. A put and a queueing answer nothing.
abbrev pub proc_reply : Scheme → HostPlan → Host → Ask → ActorReply
proc_reply s plan x (TakeFrom b reg slot) = Oldest (oldest_in (slice_get x.boxes b))
proc_reply s plan x (PublicAct act reg host) = Replied (reply_of s plan x.desk (act_entry s plan x.desk act))
proc_reply s plan x (AsksJudgement m) = Judged (attached s plan x.desk m) (judged s plan x.desk m)
proc_reply s plan x Waits = Nothing
proc_reply s plan x (Internal next) = Nothing
proc_reply s plan x (Put b m next) = Nothing
proc_reply s plan x (Admit l m next) = Nothing

-- the process by what it asked and the answer; another answer can't come
abbrev pub proc_after_reply : Ask → ActorReply → Process → Process
proc_after_reply (Internal next) answer y = next
proc_after_reply (Put b m next) answer y = next
proc_after_reply (Admit l m next) answer y = next
proc_after_reply (TakeFrom b reg slot) (Oldest m) y = taken_after_reply reg slot m y
proc_after_reply (PublicAct act reg host) (Replied reply) y = act_after_reply reg host act reply y
proc_after_reply (AsksJudgement m) (Judged certs rule) y = judged_after_reply m certs rule y
proc_after_reply _ _ y = y

-- a lane's worker

-- what a lane's worker is answered
abbrev pub worker_reply : Scheme → Host → (lane : ℕ) → LaneAsk → ActorReply
worker_reply s x l WorkerWaits = Nothing
worker_reply s x l Lifts = Front (front_of (slice_get x.queues l))
worker_reply s x l (AsksRecheck hand) = Rechecked (rechecked s x.desk hand)

-- the worker by what it asked and the answer
abbrev pub worker_after_reply : Scheme → HostPlan → (lane : ℕ) → LaneAsk → ActorReply → Worker → Worker
worker_after_reply s plan l Lifts (Front ms) e = lifted_after_reply ms e
worker_after_reply s plan l (AsksRecheck hand) (Rechecked rules) e = checked_after_reply s (lane_plan plan l) rules e
worker_after_reply s plan l _ _ e = e

-- a connection

-- what a connection is answered
abbrev pub conn_reply : Scheme → HostPlan → Host → ConnAsk → ActorReply
conn_reply s plan x (AsksInlet i n fresh stale) = IsFresh (fresh_in n (slice_get x.inlets i))
conn_reply s plan x (AsksArrival lane m rest) = Ruled (judge_delivery s plan x.desk lane m)
conn_reply s plan x ConnWaits = Nothing
conn_reply s plan x (ConnInternal next) = Nothing
conn_reply s plan x (PutsPassed b m next) = Nothing

-- the connection by what it asked and the answer
abbrev pub conn_after_reply : ConnAsk → ActorReply → Conn → Conn
conn_after_reply (ConnInternal next) answer k = next
conn_after_reply (PutsPassed b m next) answer k = next
conn_after_reply (AsksInlet i n fresh stale) (IsFresh b) k = if b then fresh else stale
conn_after_reply (AsksArrival lane m rest) (Ruled rule) k = delivery_after_reply lane m rest rule k
conn_after_reply _ _ k = k

-- each actor becomes what it is told

-- a process becomes what it is told
abbrev pub ProcessesTold : Type 0
ProcessesTold = (s : Scheme) (plan : HostPlan) (x : Host) (p : ℕ) (a : Ask) →
    slice_get (perform s plan x p a).procs p ≡ option_map (proc_after_reply a (proc_reply s plan x a)) (slice_get x.procs p)

-- so does a lane's worker
abbrev pub WorkersTold : Type 0
WorkersTold = (s : Scheme) (plan : HostPlan) (x : Host) (l : ℕ) (a : LaneAsk) →
    slice_get (perform_lane s plan x l a).workers l ≡ option_map (worker_after_reply s plan l a (worker_reply s x l a)) (slice_get x.workers l)

-- and a connection
abbrev pub ConnectionsTold : Type 0
ConnectionsTold = (s : Scheme) (plan : HostPlan) (x : Host) (k : Conn) (a : ConnAsk) →
    (perform_conn s plan x k a).conn ≡ conn_after_reply a (conn_reply s plan x a) k
