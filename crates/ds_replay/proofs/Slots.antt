-- A mailbox that is touched is the first one of its slot.
use Rattle.std.proofs.Common.{◌≡◌, ℕ, ◌∷◌, [], Option, Some, None, slice_get, ◌∙◌, ap, subst, arith, eqb}
use Rattle.std.specs.Prelude.{if◌then◌else◌, ◌||◌, nat_le}
use Rattle.ds_label.specs.declared.category.Category.{Category}
use Rattle.ds_model.specs.Scheme.{Scheme}
use Rattle.ds_model.specs.Plan.{HostPlan, Plan, host_plan, conn_plan, lane_plan}
use Rattle.ds_model.specs.Mailbox.{oldest}
use Rattle.ds_model.specs.Inlet.{Inlet}
use Rattle.ds_model.specs.Desk.{Ticked}
use Rattle.ds_model.specs.World.{Process, Mail, Mailbox, Waiting, Queue, Worker, Conn, Host, World}
use Rattle.ds_model.specs.ProcessStep.{Ask, Waits, Internal, Put, Admit, TakeFrom, PublicAct, AsksJudgement, ask}
use Rattle.ds_model.specs.WorkerStep.{LaneAsk, WorkerWaits, Lifts, AsksRecheck, lane_ask}
use Rattle.ds_model.specs.ConnectionStep.{ConnAsk, ConnWaits, ConnInternal, AsksInlet, AsksArrival, PutsPassed, accept, deliver}
use Rattle.ds_model.specs.Step.{Event, Step, Frame, Arrive, Accept, Deliver, Tick, Inject, Copy, arrived, resolve}
use Rattle.ds_model.specs.Access.{Access, NoAccess, InBox, InLane, InInlet, InDesk, put_access, take_access, take_access_in, admit_access, lift_access_in, number_access, access_of_ask, access_of_lane_ask, access_of_conn_ask, access_of_proc, access_of_lane, access_of_conn, access_of_clock, access_at, access_in, access}
use Rattle.ds_model.proofs.Places.{cond_case, none_some, some_is}
use Rattle.ds_replay.specs.Objects.{Object, TheDesk, MailboxAt, LaneAt, InletAt, OfDesk, OfMailbox, OfLane, OfInlet}
use Rattle.ds_replay.specs.Touches.{Touch, touch_of, host_of}
use Rattle.ds_replay.specs.Laws.{SlotsName}
use Rattle.ds_replay.proofs.Asks.{IsFirst, AskFacts, ConnFacts, ask_facts, accept_facts, deliver_facts}

abbrev BoxIsFirst : HostPlan → Access → Type 0
BoxIsFirst plan NoAccess = Unit {0}
BoxIsFirst plan (InBox b e) = IsFirst plan b
BoxIsFirst plan (InLane l e) = Unit {0}
BoxIsFirst plan (InInlet i e) = Unit {0}
BoxIsFirst plan (InDesk e) = Unit {0}

module _ (s : Scheme) (plan : HostPlan) (x : Host) where
  put_first : (b room : ℕ) (m : Mail Category) (o : Option Mailbox) → IsFirst plan b → BoxIsFirst plan (put_access b room m o)
  put_first b room m None f = tt
  put_first b room m (Some z) f = f

  oldest_first : (b : ℕ) (o : Option (Mail Category)) → IsFirst plan b → BoxIsFirst plan (take_access b o)
  oldest_first b None f = tt
  oldest_first b (Some m) f = f

  take_first : (b : ℕ) (o : Option Mailbox) → IsFirst plan b → BoxIsFirst plan (take_access_in b o)
  take_first b None f = tt
  take_first b (Some z) f = oldest_first b (oldest z) f

  admit_first : (l room : ℕ) (m : Waiting) (o : Option Queue) → BoxIsFirst plan (admit_access l room m o)
  admit_first l room m None = tt
  admit_first l room m (Some z) = tt

  lift_first : (l : ℕ) (o : Option Queue) → BoxIsFirst plan (lift_access_in l o)
  lift_first l None = tt
  lift_first l (Some []) = tt
  lift_first l (Some (m ∷ z)) = tt

  number_first : (i n : ℕ) (o : Option Inlet) → BoxIsFirst plan (number_access i n o)
  number_first i n None = tt
  number_first i n (Some z) = tt

  ask_first : (p : ℕ) (y : Process) (a : Ask) → AskFacts plan y a → BoxIsFirst plan (access_of_ask s plan x p a)
  ask_first p y Waits f = tt
  ask_first p y (Internal next) f = tt
  ask_first p y (Put b m next) f = put_first b _ m (slice_get x.boxes b) f.0
  ask_first p y (Admit l m next) f = admit_first l _ _ (slice_get x.queues l)
  ask_first p y (TakeFrom b reg slot) f = take_first b (slice_get x.boxes b) f
  ask_first p y (PublicAct act reg host) f = tt
  ask_first p y (AsksJudgement m) f = tt

  proc_first : (p : ℕ) (o : Option Process) → BoxIsFirst plan (access_of_proc s plan x p o)
  proc_first p None = tt
  proc_first p (Some y) = ask_first p y (ask plan p y) (ask_facts plan y p)

  lane_first : (l : ℕ) (a : LaneAsk) → BoxIsFirst plan (access_of_lane_ask x l a)
  lane_first l WorkerWaits = tt
  lane_first l Lifts = lift_first l (slice_get x.queues l)
  lane_first l (AsksRecheck hand) = tt

  worker_first : (l : ℕ) (o : Option Worker) → BoxIsFirst plan (access_of_lane s plan x l o)
  worker_first l None = tt
  worker_first l (Some e) = lane_first l (lane_ask s (lane_plan plan l) e)

  conn_first : (y : Conn) (a : ConnAsk) → ConnFacts plan y a → BoxIsFirst plan (access_of_conn_ask plan x a)
  conn_first y ConnWaits f = tt
  conn_first y (ConnInternal next) f = tt
  conn_first y (AsksInlet i n fresh stale) f = number_first i n (slice_get x.inlets i)
  conn_first y (AsksArrival lane m rest) f = tt
  conn_first y (PutsPassed b m next) f = put_first b _ m (slice_get x.boxes b) f.0

  end_first : (asks : Conn → ConnAsk) → ((y : Conn) → ConnFacts plan y (asks y)) → (o : Option Conn) → BoxIsFirst plan (access_of_conn plan asks x o)
  end_first asks facts None = tt
  end_first asks facts (Some y) = conn_first y (asks y) (facts y)

  clock_first : (t : ℕ) → BoxIsFirst plan (access_of_clock plan x.desk.moment t)
  clock_first t = cond_case (BoxIsFirst plan) (plan.silent || nat_le t x.desk.moment) NoAccess (InDesk (Ticked t)) (λ _. tt) (λ _. tt)

module _ (s : Scheme) (plan : Plan) (w : World) (h : ℕ) where
  if_first : (g : ℕ) (t : Access) → BoxIsFirst (host_plan plan h) t → BoxIsFirst (host_plan plan h) (if eqb h g then t else NoAccess)
  if_first g t f = cond_case (BoxIsFirst (host_plan plan h)) (eqb h g) t NoAccess (λ _. f) (λ _. tt)

  event_first : (x : Host) (e : Event) → BoxIsFirst (host_plan plan h) (access_at s plan w e h x)
  event_first x (Step g p) = if_first g _ (proc_first s (host_plan plan h) x p (slice_get x.procs p))
  event_first x (Frame g l) = if_first g _ (worker_first s (host_plan plan h) x l (slice_get x.workers l))
  event_first x (Accept k) = if_first (conn_plan plan k).host _ (end_first s (host_plan plan h) x (λ conn. accept s (host_plan plan h) conn (arrived w (conn_plan plan k).source conn))
      (λ y. accept_facts s (host_plan plan h) y (arrived w (conn_plan plan k).source y)) (slice_get w.conns k))
  event_first x (Deliver k) = if_first (conn_plan plan k).host _ (end_first s (host_plan plan h) x (λ conn. deliver s (host_plan plan h) conn (arrived w (conn_plan plan k).source conn))
      (λ y. deliver_facts s (host_plan plan h) y (arrived w (conn_plan plan k).source y)) (slice_get w.conns k))
  event_first x (Tick g t) = if_first g _ (clock_first s (host_plan plan h) x t)
  event_first x (Arrive k n) = tt
  event_first x (Inject k bytes) = tt
  event_first x (Copy k j from until) = tt

  first_in : (e : Event) (q : Option Host) → BoxIsFirst (host_plan plan h) (access_in s plan w e h q)
  first_in e None = tt
  first_in e (Some x) = event_first x e

abbrev place_of : Object → ℕ
place_of TheDesk = 0
place_of (MailboxAt b) = b
place_of (LaneAt l) = l
place_of (InletAt i) = i

abbrev is_box : Object → ℕ
is_box (MailboxAt b) = 1
is_box TheDesk = 0
is_box (LaneAt l) = 0
is_box (InletAt i) = 0

by_access : (plan : Plan) (h : ℕ) (a : Access) (t : Touch) (b : ℕ) → BoxIsFirst (host_plan plan h) a → touch_of h a ≡ Some t → t.object ≡ MailboxAt b → IsFirst (host_plan plan t.host) b
by_access plan h NoAccess t b f e o = absurd (none_some t e)
by_access plan h (InDesk entry) t b f e o = let no : ◌≡◌ {A = ℕ} 0 1 = ap (λ (u : Touch). is_box u.object) (some_is (record { host = h; object = TheDesk; change = OfDesk entry }) t e) ∙ ap is_box o in absurd (omega (arith, no))
by_access plan h (InLane l entry) t b f e o = let no : ◌≡◌ {A = ℕ} 0 1 = ap (λ (u : Touch). is_box u.object) (some_is (record { host = h; object = LaneAt l; change = OfLane entry }) t e) ∙ ap is_box o in absurd (omega (arith, no))
by_access plan h (InInlet i entry) t b f e o = let no : ◌≡◌ {A = ℕ} 0 1 = ap (λ (u : Touch). is_box u.object) (some_is (record { host = h; object = InletAt i; change = OfInlet entry }) t e) ∙ ap is_box o in absurd (omega (arith, no))
by_access plan h (InBox j entry) t b f e o =
    let is : record { host = h; object = MailboxAt j; change = OfMailbox entry } ≡ t = some_is (record { host = h; object = MailboxAt j; change = OfMailbox entry }) t e in
    subst (λ i. IsFirst (host_plan plan i) b) (ap (λ (u : Touch). u.host) is) (subst (IsFirst (host_plan plan h)) (ap (λ (u : Touch). place_of u.object) is ∙ ap place_of o) f)

pub slots_name : SlotsName
slots_name s plan w e t b is o = by_access plan (host_of plan e) (access s plan w e (host_of plan e)) t b (first_in s plan w (host_of plan e) (resolve plan w e) (slice_get w.hosts (host_of plan e))) is o
