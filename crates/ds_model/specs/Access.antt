-- What an event touches: at most one shared object of one host, in which it makes at most one entry.
use Rattle.std.specs.Prelude.{◌≡◌, ◌==◌, ◌||◌, nat_le, ℕ, List, [], ◌∷◌, ◌++◌, Option, Some, None, length, min, slice_get, option_map, if◌then◌else◌}
use Rattle.ds_label.specs.declared.category.Category.{Category}
use Rattle.ds_label.specs.declared.category.PubKey.{PubKey}
use Rattle.ds_script.specs.Replay.{onward, replay}
use Rattle.ds_model.specs.Lists.{at}
use Rattle.ds_model.specs.Scheme.{Scheme}
use Rattle.ds_model.specs.Plan.{HostPlan, Plan, host_plan, conn_plan, box_plan, lane_plan}
use Rattle.ds_model.specs.Mailbox.{BoxEntry, TookOut, put_entry, box_enter, box_step, oldest}
use Rattle.ds_model.specs.Lane.{LaneEntry, Lifted, admit_entry, lane_after, lane_step, frame_limit}
use Rattle.ds_model.specs.Inlet.{Inlet, InletEntry, number_entry, inlet_after, inlet_step}
use Rattle.ds_model.specs.Desk.{Desk, DeskEntry, Ticked, Looked, act_entry, desk_after, desk_step}
use Rattle.ds_model.specs.World.{Process, Mail, Mailbox, Waiting, Queue, Worker, Conn, Host, World}
use Rattle.ds_model.specs.ProcessStep.{Ask, Waits, Internal, Put, Admit, TakeFrom, PublicAct, AsksJudgement, ask}
use Rattle.ds_model.specs.WorkerStep.{LaneAsk, WorkerWaits, Lifts, AsksRecheck, lane_ask}
use Rattle.ds_model.specs.ConnectionStep.{ConnAsk, ConnWaits, ConnInternal, AsksInlet, AsksArrival, PutsPassed, accept, deliver}
use Rattle.ds_model.specs.Step.{Event, Step, Frame, Arrive, Accept, Deliver, Tick, Inject, Copy, arrived, resolve, step, run}

-- nothing, or an entry in a mailbox, on a lane, at an inlet or at the desk of the host
pub data Access : Type 0 where
  NoAccess : Access
  InBox : (box : ℕ) → BoxEntry (Mail Category) → Access
  InLane : (lane : ℕ) → LaneEntry Waiting → Access
  InInlet : (inlet : ℕ) → InletEntry → Access
  InDesk : DeskEntry → Access

-- OBJECTS THAT ARE THERE

-- a put into a mailbox
abbrev pub put_access : (box room : ℕ) → Mail Category → Option Mailbox → Access
put_access b room m None = NoAccess
put_access b room m (Some y) = InBox b (put_entry room m y.waiting)

-- a take from an empty mailbox makes no entry
abbrev pub take_access : (box : ℕ) → Option (Mail Category) → Access
take_access b None = NoAccess
take_access b (Some m) = InBox b TookOut

-- a take from a mailbox that may not be there
abbrev pub take_access_in : (box : ℕ) → Option Mailbox → Access
take_access_in b None = NoAccess
take_access_in b (Some y) = take_access b (oldest y)

-- a message onto a lane
abbrev pub admit_access : (lane room : ℕ) → Waiting → Option Queue → Access
admit_access l room m None = NoAccess
admit_access l room m (Some q) = InLane l (admit_entry room m q)

-- neither does a lift of nothing
abbrev pub lift_access : (lane : ℕ) → Queue → Access
lift_access l [] = NoAccess
lift_access l (m ∷ waiting) = InLane l (Lifted (min frame_limit (length (m ∷ waiting))))

-- a lift of a lane that may not be there
abbrev pub lift_access_in : (lane : ℕ) → Option Queue → Access
lift_access_in l None = NoAccess
lift_access_in l (Some q) = lift_access l q

-- a frame's number at an inlet
abbrev pub number_access : (inlet number : ℕ) → Option Inlet → Access
number_access i number None = NoAccess
number_access i number (Some y) = InInlet i (number_entry number y)

-- WHAT EACH ASK TOUCHES

-- of a process
abbrev pub access_of_ask : Scheme → HostPlan → Host → (proc : ℕ) → Ask → Access
access_of_ask s plan x p Waits = NoAccess
access_of_ask s plan x p (Internal next) = NoAccess
access_of_ask s plan x p (Put b m next) = put_access b (box_plan plan b).room m (slice_get x.boxes b)
access_of_ask s plan x p (Admit l m next) = admit_access l (lane_plan plan l).room (record { sender = p; message = m }) (slice_get x.queues l)
access_of_ask s plan x p (TakeFrom b reg slot) = take_access_in b (slice_get x.boxes b)
access_of_ask s plan x p (PublicAct act reg host) = InDesk (act_entry s plan x.desk act)
access_of_ask s plan x p (AsksJudgement m) = InDesk Looked

-- of a lane's worker
abbrev pub access_of_lane_ask : Host → (lane : ℕ) → LaneAsk → Access
access_of_lane_ask x l WorkerWaits = NoAccess
access_of_lane_ask x l Lifts = lift_access_in l (slice_get x.queues l)
access_of_lane_ask x l (AsksRecheck hand) = InDesk Looked

-- of a connection
abbrev pub access_of_conn_ask : HostPlan → Host → ConnAsk → Access
access_of_conn_ask plan x ConnWaits = NoAccess
access_of_conn_ask plan x (ConnInternal next) = NoAccess
access_of_conn_ask plan x (AsksInlet i n fresh stale) = number_access i n (slice_get x.inlets i)
access_of_conn_ask plan x (AsksArrival lane m rest) = InDesk Looked
access_of_conn_ask plan x (PutsPassed b m next) = put_access b (box_plan plan b).room m (slice_get x.boxes b)

-- of a process that may not be there
abbrev pub access_of_proc : Scheme → HostPlan → Host → (proc : ℕ) → Option Process → Access
access_of_proc s plan x p None = NoAccess
access_of_proc s plan x p (Some y) = access_of_ask s plan x p (ask plan p y)

-- of a worker that may not be there
abbrev pub access_of_lane : Scheme → HostPlan → Host → (lane : ℕ) → Option Worker → Access
access_of_lane s plan x l None = NoAccess
access_of_lane s plan x l (Some e) = access_of_lane_ask x l (lane_ask s (lane_plan plan l) e)

-- of a connection that may not be there
abbrev pub access_of_conn : HostPlan → (Conn → ConnAsk) → Host → Option Conn → Access
access_of_conn plan asks x None = NoAccess
access_of_conn plan asks x (Some y) = access_of_conn_ask plan x (asks y)

-- a tick makes its entry where it raises the moment, and else touches nothing
abbrev pub access_of_clock : HostPlan → (moment to : ℕ) → Access
access_of_clock plan moment t = if plan.silent || nat_le t moment then NoAccess else InDesk (Ticked t)

-- what an event touches on host h, given what stands there
abbrev pub access_at : Scheme → Plan → World → Event → ℕ → Host → Access
access_at s plan w (Step g p) h x = if h == g then access_of_proc s (host_plan plan h) x p (slice_get x.procs p) else NoAccess
access_at s plan w (Frame g l) h x = if h == g then access_of_lane s (host_plan plan h) x l (slice_get x.workers l) else NoAccess
access_at s plan w (Accept k) h x = if h == (conn_plan plan k).host then access_of_conn (host_plan plan h) (λ conn. accept s (host_plan plan h) conn (arrived w (conn_plan plan k).source conn)) x (slice_get w.conns k) else NoAccess
access_at s plan w (Deliver k) h x = if h == (conn_plan plan k).host then access_of_conn (host_plan plan h) (λ conn. deliver s (host_plan plan h) conn (arrived w (conn_plan plan k).source conn)) x (slice_get w.conns k) else NoAccess
access_at s plan w (Tick g t) h x = if h == g then access_of_clock (host_plan plan h) x.desk.moment t else NoAccess
access_at s plan w (Arrive k n) h x = NoAccess
access_at s plan w (Inject k bytes) h x = NoAccess
access_at s plan w (Copy k j from until) h x = NoAccess

-- what an event touches on a host that may not be there
abbrev pub access_in : Scheme → Plan → World → Event → ℕ → Option Host → Access
access_in s plan w e h None = NoAccess
access_in s plan w e h (Some x) = access_at s plan w e h x

-- what an event touches on host h
abbrev pub access : Scheme → Plan → World → Event → (host : ℕ) → Access
access s plan w e h = access_in s plan w (resolve plan w e) h (slice_get w.hosts h)

-- what the events of a run touch there, one after another
abbrev pub accesses : Scheme → Plan → World → List Event → (host : ℕ) → List Access
accesses s plan w [] h = []
accesses s plan w (e ∷ events) h = access s plan w e h ∷ accesses s plan (step s plan w e) events h

-- THE SHARED OBJECTS OF A HOST

-- its desk, and its mailboxes, waiting lists and inlets by their places
pub record Objects : Type 0 where
  pub desk : Desk
  pub boxes : List Mailbox
  pub queues : List Queue
  pub inlets : List Inlet

-- those of a host
abbrev pub objects : Host → Objects
objects x = record { desk = x.desk; boxes = x.boxes; queues = x.queues; inlets = x.inlets }

-- those of host h, where there is one
abbrev pub objects_at : World → (host : ℕ) → Option Objects
objects_at w h = option_map objects (slice_get w.hosts h)

-- an entry changes its own object alone
abbrev pub objects_after : PubKey → Access → Objects → Objects
objects_after here NoAccess o = o
objects_after here (InBox b entry) o = record o { boxes = at b (box_enter entry) o.boxes }
objects_after here (InLane l entry) o = record o { queues = at l (lane_after entry) o.queues }
objects_after here (InInlet i entry) o = record o { inlets = at i (inlet_after entry) o.inlets }
objects_after here (InDesk entry) o = record o { desk = desk_after here entry o.desk }

-- ONE OBJECT: its state, and the entries that are its own, in order

-- what waits in a mailbox
abbrev pub box_state : (box : ℕ) → Objects → Option (List (Mail Category))
box_state b o = option_map (λ x. x.waiting) (slice_get o.boxes b)

-- the entry, where it is the mailbox's own
abbrev pub box_entry : (box : ℕ) → Access → List (BoxEntry (Mail Category))
box_entry b (InBox j entry) = if j == b then entry ∷ [] else []
box_entry b NoAccess = []
box_entry b (InLane j entry) = []
box_entry b (InInlet j entry) = []
box_entry b (InDesk entry) = []

-- what waits on a lane
abbrev pub lane_state : (lane : ℕ) → Objects → Option Queue
lane_state l o = slice_get o.queues l

-- the entry, where it is the lane's own
abbrev pub lane_entry : (lane : ℕ) → Access → List (LaneEntry Waiting)
lane_entry l (InLane j entry) = if j == l then entry ∷ [] else []
lane_entry l NoAccess = []
lane_entry l (InBox j entry) = []
lane_entry l (InInlet j entry) = []
lane_entry l (InDesk entry) = []

-- the last number of an inlet
abbrev pub inlet_state : (inlet : ℕ) → Objects → Option Inlet
inlet_state i o = slice_get o.inlets i

-- the entry, where it is the inlet's own
abbrev pub inlet_entry : (inlet : ℕ) → Access → List InletEntry
inlet_entry i (InInlet j entry) = if j == i then entry ∷ [] else []
inlet_entry i NoAccess = []
inlet_entry i (InBox j entry) = []
inlet_entry i (InLane j entry) = []
inlet_entry i (InDesk entry) = []

-- the desk
abbrev pub desk_state : Objects → Option Desk
desk_state o = Some o.desk

-- the entry, where it is the desk's own
abbrev pub desk_entry : Access → List DeskEntry
desk_entry (InDesk entry) = entry ∷ []
desk_entry NoAccess = []
desk_entry (InBox j entry) = []
desk_entry (InLane j entry) = []
desk_entry (InInlet j entry) = []

-- the entries of one object among touches
abbrev pub entries_of : {E : Type 0} → (Access → List E) → List Access → List E
entries_of own [] = []
entries_of own (t ∷ ts) = own t ++ entries_of own ts

-- an object's state after a run is the replay of the run's own entries from its state before, each where it may stand
abbrev pub Replayed : {S E : Type 0} → Scheme → Plan → (host : ℕ) → (Objects → Option S) → (Access → List E) →
    (S → E → Option S) → World → List Event → Type 0
Replayed s plan h state own step w events =
    onward (onward (objects_at w h) state) (λ x. replay step x (entries_of own (accesses s plan w events h))) ≡ onward (objects_at (run s plan w events) h) state

-- each mailbox
abbrev pub BoxesReplay : Type 0
BoxesReplay = (s : Scheme) (plan : Plan) (w : World) (events : List Event) (h b : ℕ) →
    Replayed s plan h (box_state b) (box_entry b) (box_step (box_plan (host_plan plan h) b).room) w events

-- each lane's waiting list
abbrev pub LanesReplay : Type 0
LanesReplay = (s : Scheme) (plan : Plan) (w : World) (events : List Event) (h l : ℕ) →
    Replayed s plan h (lane_state l) (lane_entry l) (lane_step (lane_plan (host_plan plan h) l).room) w events

-- each inlet
abbrev pub InletsReplay : Type 0
InletsReplay = (s : Scheme) (plan : Plan) (w : World) (events : List Event) (h i : ℕ) →
    Replayed s plan h (inlet_state i) (inlet_entry i) inlet_step w events

-- each desk
abbrev pub DesksReplay : Type 0
DesksReplay = (s : Scheme) (plan : Plan) (w : World) (events : List Event) (h : ℕ) →
    Replayed s plan h desk_state desk_entry (desk_step s (host_plan plan h)) w events
