-- One event, and a run. An event is one step of one actor: a process, a lane's worker, a connection, a host's clock,
-- or an outsider who writes on a link. An event on what doesn't exist, and one that finds nothing to do, leaves the
-- world as it is.
use Rattle.std.specs.Prelude.{ℕ, List, [], ◌∷◌, ◌++◌, Option, Some, None, take, drop, slice_get, Bool, false, if◌then◌else◌}
use Rattle.ds_label.specs.declared.category.Category.{Category}
use Rattle.ds_model.specs.Lists.{at}
use Rattle.ds_model.specs.Scheme.{Scheme}
use Rattle.ds_model.specs.Plan.{HostPlan, Plan, Source, Link, OfLane, host_plan, receiving_host, conn_plan, box_plan, lane_plan}
use Rattle.ds_model.specs.Mailbox.{put, oldest, took}
use Rattle.ds_model.specs.Lane.{admit_entry, admit, front, lifted}
use Rattle.ds_model.specs.Inlet.{Inlet, is_fresh, numbered}
use Rattle.ds_model.specs.Desk.{Desk, Ticked, desk_after, act_entry, reply_of}
use Rattle.ds_model.specs.ExporterRules.{judge_send, attach}
use Rattle.ds_msg.specs.declared.message.Message.{Message}
use Rattle.ds_label.specs.declared.rule.Rule.{Rule}
use Rattle.ds_model.specs.World.{Process, Mail, Mailbox, Queue, Waiting, Worker, LaneLine, Conn, Host, World}
use Rattle.ds_model.specs.ProcessStep.{Ask, Waits, Internal, Put, Admit, TakeFrom, PublicAct, AsksJudgement, ask, lane_of, taken_after_reply, act_after_reply, judged_after_reply}
use Rattle.ds_model.specs.WorkerStep.{LaneAsk, WorkerWaits, Lifts, AsksRecheck, lane_ask, rechecked, lifted_after_reply, checked_after_reply, admitted_line, checked_lines}
use Rattle.ds_model.specs.ConnectionStep.{ConnAsk, ConnWaits, ConnInternal, AsksInlet, AsksArrival, PutsPassed, arrive, accept, deliver, judge_delivery, delivery_after_reply}

-- A step of a process; a frame, in two steps: the lift and the framing; so many more bytes arrive; the next item is
-- taken; the next message is judged or put; the moment becomes at least this; an outsider appends bytes to a link's
-- stream; and an outsider appends a part of another connection's stream. Lanes are told by their places, from 0.
pub data Event : Type 0 where
  Step : (host proc : ℕ) → Event
  Frame : (host lane : ℕ) → Event
  Arrive : (conn count : ℕ) → Event
  Accept : (conn : ℕ) → Event
  Deliver : (conn : ℕ) → Event
  Tick : (host moment : ℕ) → Event
  Inject : (conn : ℕ) → List ℕ → Event
  Copy : (conn other from until : ℕ) → Event

-- PROCESSES

-- the oldest message of a mailbox that may not be there
abbrev pub oldest_in : Option Mailbox → Option (Mail Category)
oldest_in None = None
oldest_in (Some b) = oldest b

-- what is printed of a message that is admitted to a lane that may not be there
abbrev pub admitted_lines : ℕ → Waiting → Option Queue → List LaneLine
admitted_lines room m None = []
admitted_lines room m (Some q) = admitted_line (admit_entry room m q)

-- a log with more lines
abbrev pub lined : List LaneLine → List LaneLine → List LaneLine
lined more log = log ++ more

-- the desk's judgement of a message to another host, and the certificates that it attaches
abbrev pub judged : Scheme → HostPlan → Desk → Message → Option Rule
judged s plan d m = judge_send s (lane_of plan m.to m.label) d.addresses d.store d.moment m.to m.label

-- the certificates that the desk attaches to it
abbrev pub attached : Scheme → HostPlan → Desk → Message → List (List ℕ)
attached s plan d m = attach s d.store d.moment plan.key m.label m.own m.clear

-- the host after process p asked
abbrev pub perform : Scheme → HostPlan → Host → ℕ → Ask → Host
perform s plan x p Waits = x
perform s plan x p (Internal next) = record x { procs = at p (λ _. next) x.procs }
perform s plan x p (Put b m next) = record x {
  procs = at p (λ _. next) x.procs;
  boxes = at b (put (box_plan plan b).room m) x.boxes;
}
perform s plan x p (Admit l m next) = record x {
  procs = at p (λ _. next) x.procs;
  queues = at l (admit (lane_plan plan l).room (record { sender = p; message = m })) x.queues;
  logs = at l (lined (admitted_lines (lane_plan plan l).room (record { sender = p; message = m }) (slice_get x.queues l))) x.logs;
}
perform s plan x p (TakeFrom b reg slot) = record x {
  procs = at p (taken_after_reply reg slot (oldest_in (slice_get x.boxes b))) x.procs;
  boxes = at b took x.boxes;
}
perform s plan x p (PublicAct act reg host) = record x {
  desk = desk_after plan.key (act_entry s plan x.desk act) x.desk;
  procs = at p (act_after_reply reg host act (reply_of s plan x.desk (act_entry s plan x.desk act))) x.procs;
}
perform s plan x p (AsksJudgement m) = record x {
  procs = at p (judged_after_reply m (attached s plan x.desk m) (judged s plan x.desk m)) x.procs;
}

-- the host after a step of process p, where there is one
abbrev pub step_proc : Scheme → HostPlan → Host → ℕ → Option Process → Host
step_proc s plan x p None = x
step_proc s plan x p (Some y) = perform s plan x p (ask plan p y)

-- LANE WORKERS

-- what a lift takes of a lane that may not be there
abbrev pub front_of : Option Queue → List Waiting
front_of None = []
front_of (Some q) = front q

-- what is printed where a worker's hand is judged
abbrev pub checked_in : List (Option Rule) → Option Worker → List LaneLine
checked_in rules None = []
checked_in rules (Some e) = checked_lines rules e

-- the host after the worker of lane l asked
abbrev pub perform_lane : Scheme → HostPlan → Host → ℕ → LaneAsk → Host
perform_lane s plan x l WorkerWaits = x
perform_lane s plan x l Lifts = record x {
  queues = at l lifted x.queues;
  workers = at l (lifted_after_reply (front_of (slice_get x.queues l))) x.workers;
}
perform_lane s plan x l (AsksRecheck hand) = record x {
  workers = at l (checked_after_reply s (lane_plan plan l) (rechecked s x.desk hand)) x.workers;
  logs = at l (lined (checked_in (rechecked s x.desk hand) (slice_get x.workers l))) x.logs;
}

-- the host after a frame event of lane l, where there is one
abbrev pub step_lane : Scheme → HostPlan → Host → ℕ → Option Worker → Host
step_lane s plan x l None = x
step_lane s plan x l (Some e) = perform_lane s plan x l (lane_ask s (lane_plan plan l) e)

-- CONNECTIONS

-- a host and one of the connections to it
pub record HostAndConn : Type 0 where
  pub host : Host
  pub conn : Conn

-- whether a number is fresh at an inlet that may not be there
abbrev pub fresh_in : ℕ → Option Inlet → Bool
fresh_in number None = false
fresh_in number (Some i) = is_fresh number i

-- both after the connection asked
abbrev pub perform_conn : Scheme → HostPlan → Host → Conn → ConnAsk → HostAndConn
perform_conn s plan x k ConnWaits = record { host = x; conn = k }
perform_conn s plan x k (ConnInternal next) = record { host = x; conn = next }
perform_conn s plan x k (AsksInlet i number fresh stale) = record {
  host = record x { inlets = at i (numbered number) x.inlets };
  conn = if fresh_in number (slice_get x.inlets i) then fresh else stale;
}
perform_conn s plan x k (AsksArrival lane m rest) = record {
  host = x;
  conn = delivery_after_reply lane m rest (judge_delivery s plan x.desk lane m) k;
}
perform_conn s plan x k (PutsPassed b m next) = record {
  host = record x { boxes = at b (put (box_plan plan b).room m) x.boxes };
  conn = next;
}

-- the stream that a connection reads: a link's own, or the lane's

-- the stream of a worker that may not be there
abbrev pub stream_from : Option Worker → List ℕ
stream_from None = []
stream_from (Some e) = e.stream

-- the worker of lane l
abbrev pub worker_at : Option Host → ℕ → Option Worker
worker_at None l = None
worker_at (Some x) l = slice_get x.workers l

-- what lane l of host h has written
abbrev pub lane_stream : World → (host lane : ℕ) → List ℕ
lane_stream w h l = stream_from (worker_at (slice_get w.hosts h) l)

-- the stream of a connection with this source
abbrev pub stream_of : World → Source → Conn → List ℕ
stream_of w Link k = k.link
stream_of w (OfLane h l) k = lane_stream w h l

-- the part of it that arrived
abbrev pub arrived : World → Source → Conn → List ℕ
arrived w source k = take k.count (stream_of w source k)

-- the stream of a connection that may not be there
abbrev pub stream_at : World → Plan → ℕ → Option Conn → List ℕ
stream_at w plan k None = []
stream_at w plan k (Some conn) = stream_of w (conn_plan plan k).source conn

-- a link's stream grows; nothing can be injected into a lane's connection
abbrev pub injected : Source → List ℕ → Conn → Conn
injected Link bytes k = record k { link = k.link ++ bytes }
injected (OfLane h l) bytes k = k

-- the world with this host and this connection
abbrev pub with_ends : World → ℕ → ℕ → HostAndConn → World
with_ends w h k ends = record { hosts = at h (λ _. ends.host) w.hosts; conns = at k (λ _. ends.conn) w.conns }

-- the world after connection k to host h asked, where both are there
abbrev pub step_conn : Scheme → Plan → World → ℕ → ℕ → (Conn → ConnAsk) → Option Host → Option Conn → World
step_conn s plan w h k asks (Some x) (Some conn) = with_ends w h k (perform_conn s (host_plan plan h) x conn (asks conn))
step_conn s plan w h k asks _ _ = w

-- CLOCKS

-- a silent host has no desk
abbrev pub ticked : HostPlan → ℕ → Host → Host
ticked plan t x = if plan.silent then x else record x { desk = desk_after plan.key (Ticked t) x.desk }

-- WORLDS

-- the world with a change of host h
abbrev pub on_host : ℕ → (Host → Host) → World → World
on_host h f w = record { hosts = at h f w.hosts; conns = w.conns }

-- the world with a change of connection k
abbrev pub on_conn : ℕ → (Conn → Conn) → World → World
on_conn k f w = record { hosts = w.hosts; conns = at k f w.conns }

-- a copy is the injection of its bytes, as far as they exist
abbrev pub resolve : Plan → World → Event → Event
resolve plan w (Copy k j from until) = Inject k (drop from (take until (stream_at w plan j (slice_get w.conns j))))
resolve plan w (Step h p) = Step h p
resolve plan w (Frame h l) = Frame h l
resolve plan w (Arrive k n) = Arrive k n
resolve plan w (Accept k) = Accept k
resolve plan w (Deliver k) = Deliver k
resolve plan w (Tick h t) = Tick h t
resolve plan w (Inject k bytes) = Inject k bytes

-- the world after an event that isn't a copy
abbrev pub happens : Scheme → Plan → World → Event → World
happens s plan w (Step h p) = on_host h (λ x. step_proc s (host_plan plan h) x p (slice_get x.procs p)) w
happens s plan w (Frame h l) = on_host h (λ x. step_lane s (host_plan plan h) x l (slice_get x.workers l)) w
happens s plan w (Arrive k n) = on_conn k (λ conn. arrive (stream_of w (conn_plan plan k).source conn) n conn) w
happens s plan w (Accept k) =
    step_conn s plan w (conn_plan plan k).host k (λ conn. accept s (receiving_host plan k) conn (arrived w (conn_plan plan k).source conn))
    (slice_get w.hosts (conn_plan plan k).host) (slice_get w.conns k)
happens s plan w (Deliver k) =
    step_conn s plan w (conn_plan plan k).host k (λ conn. deliver s (receiving_host plan k) conn (arrived w (conn_plan plan k).source conn))
    (slice_get w.hosts (conn_plan plan k).host) (slice_get w.conns k)
happens s plan w (Tick h t) = on_host h (ticked (host_plan plan h) t) w
happens s plan w (Inject k bytes) = on_conn k (injected (conn_plan plan k).source bytes) w
happens s plan w (Copy k j from until) = w

-- the world after an event
abbrev pub step : Scheme → Plan → World → Event → World
step s plan w e = happens s plan w (resolve plan w e)

-- the world after each event of a list
abbrev pub run : Scheme → Plan → World → List Event → World
run s plan w [] = w
run s plan w (e ∷ events) = run s plan (step s plan w e) events
