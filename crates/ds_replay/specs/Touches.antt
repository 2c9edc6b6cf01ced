-- What the step of an event touches: at most one object of one host, by one change. The changes are the entries of the
-- model's `access`; here they are told object by object.
use Rattle.std.specs.Prelude.{ℕ, Bool, true, false, ◌==◌, ◌&&◌, List, [], ◌∷◌, ◌++◌, Option, Some, None, slice_get, if◌then◌else◌}
use Rattle.ds_model.specs.Scheme.{Scheme}
use Rattle.ds_model.specs.Plan.{HostPlan, Plan, host_plan, conn_plan, receiving_host}
use Rattle.ds_model.specs.World.{Process, Conn, World}
use Rattle.ds_model.specs.ProcessStep.{Ask, Waits, Internal, Put, Admit, TakeFrom, PublicAct, AsksJudgement, ask}
use Rattle.ds_model.specs.ConnectionStep.{ConnAsk, ConnWaits, ConnInternal, AsksInlet, AsksArrival, PutsPassed, accept, deliver}
use Rattle.ds_model.specs.Step.{Event, Step, Frame, Arrive, Accept, Deliver, Tick, Inject, Copy, arrived, step}
use Rattle.ds_model.specs.Views.{proc_at}
use Rattle.ds_model.specs.Access.{Access, NoAccess, InBox, InLane, InInlet, InDesk, access}
use Rattle.ds_replay.specs.Objects.{Object, TheDesk, MailboxAt, LaneAt, InletAt, same_object, Change, OfDesk, OfMailbox, OfLane, OfInlet}

-- a change of one object of one host
pub record Touch : Type 0 where
  pub host : ℕ
  pub object : Object
  pub change : Change

-- what was entered on host h, if anything
abbrev pub touch_of : (host : ℕ) → Access → Option Touch
touch_of h NoAccess = None
touch_of h (InDesk entry) = Some (record { host = h; object = TheDesk; change = OfDesk entry })
touch_of h (InBox b entry) = Some (record { host = h; object = MailboxAt b; change = OfMailbox entry })
touch_of h (InLane l entry) = Some (record { host = h; object = LaneAt l; change = OfLane entry })
touch_of h (InInlet i entry) = Some (record { host = h; object = InletAt i; change = OfInlet entry })

-- the host of an event: its actor's, and of a connection the host to which it leads
abbrev pub host_of : Plan → Event → ℕ
host_of plan (Step h p) = h
host_of plan (Frame h l) = h
host_of plan (Arrive k n) = (conn_plan plan k).host
host_of plan (Accept k) = (conn_plan plan k).host
host_of plan (Deliver k) = (conn_plan plan k).host
host_of plan (Tick h t) = h
host_of plan (Inject k bytes) = (conn_plan plan k).host
host_of plan (Copy k j from until) = (conn_plan plan k).host

-- what the step of an event touches
abbrev pub touch : Scheme → Plan → World → Event → Option Touch
touch s plan w e = touch_of (host_of plan e) (access s plan w e (host_of plan e))

-- the change, where it is one of this object of host h
abbrev pub change_of : (host : ℕ) → Object → Option Touch → List Change
change_of h object None = []
change_of h object (Some t) = if (t.host == h) && same_object t.object object then t.change ∷ [] else []

-- the changes that the events of a run make of it, in order
abbrev pub changes_of : Scheme → Plan → World → List Event → (host : ℕ) → Object → List Change
changes_of s plan w [] h object = []
changes_of s plan w (e ∷ events) h object = change_of h object (touch s plan w e) ++ changes_of s plan (step s plan w e) events h object

-- WHAT CHANGES NO SHARED OBJECT

-- a step inside a process
abbrev pub is_inside : Ask → Bool
is_inside (Internal next) = true
is_inside Waits = false
is_inside (Put b m next) = false
is_inside (Admit l m next) = false
is_inside (TakeFrom b reg slot) = false
is_inside (PublicAct act reg host) = false
is_inside (AsksJudgement m) = false

-- a hello that a connection takes, and its failure
abbrev pub is_own_step : ConnAsk → Bool
is_own_step (ConnInternal next) = true
is_own_step ConnWaits = false
is_own_step (AsksInlet i n fresh stale) = false
is_own_step (AsksArrival lane m rest) = false
is_own_step (PutsPassed b m next) = false

-- of a process that may not be there
abbrev pub inside_proc : HostPlan → (proc : ℕ) → Option Process → Bool
inside_proc plan p None = false
inside_proc plan p (Some y) = is_inside (ask plan p y)

-- of a connection that may not be there
abbrev pub inside_conn : (Conn → ConnAsk) → Option Conn → Bool
inside_conn asks None = false
inside_conn asks (Some y) = is_own_step (asks y)

-- whether an event is its actor's own affair: a step inside a process or a connection, or bytes that come
abbrev pub is_inner : Scheme → Plan → World → Event → Bool
is_inner s plan w (Step h p) = inside_proc (host_plan plan h) p (proc_at w h p)
is_inner s plan w (Frame h l) = false
is_inner s plan w (Arrive k n) = true
is_inner s plan w (Accept k) =
    inside_conn (λ conn. accept s (receiving_host plan k) conn (arrived w (conn_plan plan k).source conn)) (slice_get w.conns k)
is_inner s plan w (Deliver k) =
    inside_conn (λ conn. deliver s (receiving_host plan k) conn (arrived w (conn_plan plan k).source conn)) (slice_get w.conns k)
is_inner s plan w (Tick h t) = false
is_inner s plan w (Inject k bytes) = true
is_inner s plan w (Copy k j from until) = true
