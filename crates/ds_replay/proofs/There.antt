-- What an event enters, it enters in an object that is there.
use Rattle.std.proofs.Common.{◌≡◌, ℕ, true, false, List, [], ◌∷◌, Option, Some, None, slice_get, option_map, refl, sym, ◌∙◌, ap, arith, eqb, eqb-true}
use Rattle.std.specs.Prelude.{if◌then◌else◌, ◌||◌, nat_le}
use Rattle.std.specs.Option.{is_some}
use Rattle.ds_label.specs.declared.category.Category.{Category}
use Rattle.ds_script.specs.Replay.{onward}
use Rattle.ds_model.specs.Scheme.{Scheme}
use Rattle.ds_model.specs.Plan.{HostPlan, Plan, host_plan, conn_plan, lane_plan}
use Rattle.ds_model.specs.Mailbox.{oldest}
use Rattle.ds_model.specs.Inlet.{Inlet}
use Rattle.ds_model.specs.Desk.{Ticked}
use Rattle.ds_model.specs.World.{Process, Mail, Mailbox, Waiting, Queue, Worker, Conn, Host, World}
use Rattle.ds_model.specs.ProcessStep.{Ask, Waits, Internal, Put, Admit, TakeFrom, PublicAct, AsksJudgement, ask}
use Rattle.ds_model.specs.WorkerStep.{LaneAsk, WorkerWaits, Lifts, AsksRecheck, lane_ask}
use Rattle.ds_model.specs.ConnectionStep.{ConnAsk, ConnWaits, ConnInternal, AsksInlet, AsksArrival, PutsPassed, accept, deliver}
use Rattle.ds_model.specs.Step.{Event, Step, Frame, Arrive, Accept, Deliver, Tick, Inject, Copy, arrived, resolve}
use Rattle.ds_model.specs.Access.{Access, NoAccess, InBox, InLane, InInlet, InDesk, put_access, take_access, take_access_in, admit_access, lift_access, lift_access_in, number_access, access_of_ask, access_of_lane_ask, access_of_conn_ask, access_of_proc, access_of_lane, access_of_conn, access_of_clock, access_at, access_in, access, Objects, objects, objects_at, box_state, box_entry, lane_state, lane_entry, inlet_state, inlet_entry}
use Rattle.ds_model.proofs.Places.{cond_case}

-- the object of the entry is there
abbrev pub IsThere : Objects → Access → Type 0
IsThere o NoAccess = Unit {0}
IsThere o (InBox b e) = is_some (slice_get o.boxes b) ≡ true
IsThere o (InLane l e) = is_some (slice_get o.queues l) ≡ true
IsThere o (InInlet i e) = is_some (slice_get o.inlets i) ≡ true
IsThere o (InDesk e) = Unit {0}

module _ (s : Scheme) (plan : HostPlan) (x : Host) where
  put_there : (b room : ℕ) (m : Mail Category) (o : Option Mailbox) → slice_get x.boxes b ≡ o → IsThere (objects x) (put_access b room m o)
  put_there b room m None e = tt
  put_there b room m (Some z) e = ap is_some e

  oldest_there : (b : ℕ) (z : Mailbox) (o : Option (Mail Category)) → slice_get x.boxes b ≡ Some z → IsThere (objects x) (take_access b o)
  oldest_there b z None e = tt
  oldest_there b z (Some m) e = ap is_some e

  take_there : (b : ℕ) (o : Option Mailbox) → slice_get x.boxes b ≡ o → IsThere (objects x) (take_access_in b o)
  take_there b None e = tt
  take_there b (Some z) e = oldest_there b z (oldest z) e

  admit_there : (l room : ℕ) (m : Waiting) (o : Option Queue) → slice_get x.queues l ≡ o → IsThere (objects x) (admit_access l room m o)
  admit_there l room m None e = tt
  admit_there l room m (Some z) e = ap is_some e

  front_there : (l : ℕ) (z : Queue) → slice_get x.queues l ≡ Some z → IsThere (objects x) (lift_access l z)
  front_there l [] e = tt
  front_there l (m ∷ z) e = ap is_some e

  lift_there : (l : ℕ) (o : Option Queue) → slice_get x.queues l ≡ o → IsThere (objects x) (lift_access_in l o)
  lift_there l None e = tt
  lift_there l (Some z) e = front_there l z e

  number_there : (i n : ℕ) (o : Option Inlet) → slice_get x.inlets i ≡ o → IsThere (objects x) (number_access i n o)
  number_there i n None e = tt
  number_there i n (Some z) e = ap is_some e

  ask_there : (p : ℕ) (a : Ask) → IsThere (objects x) (access_of_ask s plan x p a)
  ask_there p Waits = tt
  ask_there p (Internal next) = tt
  ask_there p (Put b m next) = put_there b _ m _ refl
  ask_there p (Admit l m next) = admit_there l _ _ _ refl
  ask_there p (TakeFrom b reg slot) = take_there b _ refl
  ask_there p (PublicAct act reg host) = tt
  ask_there p (AsksJudgement m) = tt

  proc_there : (p : ℕ) (o : Option Process) → IsThere (objects x) (access_of_proc s plan x p o)
  proc_there p None = tt
  proc_there p (Some y) = ask_there p (ask plan p y)

  lane_there : (l : ℕ) (a : LaneAsk) → IsThere (objects x) (access_of_lane_ask x l a)
  lane_there l WorkerWaits = tt
  lane_there l Lifts = lift_there l _ refl
  lane_there l (AsksRecheck hand) = tt

  worker_there : (l : ℕ) (o : Option Worker) → IsThere (objects x) (access_of_lane s plan x l o)
  worker_there l None = tt
  worker_there l (Some e) = lane_there l (lane_ask s (lane_plan plan l) e)

  conn_there : (a : ConnAsk) → IsThere (objects x) (access_of_conn_ask plan x a)
  conn_there ConnWaits = tt
  conn_there (ConnInternal next) = tt
  conn_there (AsksInlet i n fresh stale) = number_there i n _ refl
  conn_there (AsksArrival lane m rest) = tt
  conn_there (PutsPassed b m next) = put_there b _ m _ refl

  end_there : (asks : Conn → ConnAsk) (o : Option Conn) → IsThere (objects x) (access_of_conn plan asks x o)
  end_there asks None = tt
  end_there asks (Some y) = conn_there (asks y)

  clock_there : (t : ℕ) → IsThere (objects x) (access_of_clock plan x.desk.moment t)
  clock_there t = cond_case (IsThere (objects x)) (plan.silent || nat_le t x.desk.moment) NoAccess (InDesk (Ticked t)) (λ _. tt) (λ _. tt)

module _ (s : Scheme) (plan : Plan) (w : World) (h : ℕ) (x : Host) where
  if_here : (g : ℕ) (t : Access) → IsThere (objects x) t → IsThere (objects x) (if eqb h g then t else NoAccess)
  if_here g t m = cond_case (IsThere (objects x)) (eqb h g) t NoAccess (λ _. m) (λ _. tt)

  event_there : (e : Event) → IsThere (objects x) (access_at s plan w e h x)
  event_there (Step g p) = if_here g _ (proc_there s (host_plan plan h) x p (slice_get x.procs p))
  event_there (Frame g l) = if_here g _ (worker_there s (host_plan plan h) x l (slice_get x.workers l))
  event_there (Accept k) = if_here (conn_plan plan k).host _ (end_there s (host_plan plan h) x (λ conn. accept s (host_plan plan h) conn (arrived w (conn_plan plan k).source conn)) (slice_get w.conns k))
  event_there (Deliver k) = if_here (conn_plan plan k).host _ (end_there s (host_plan plan h) x (λ conn. deliver s (host_plan plan h) conn (arrived w (conn_plan plan k).source conn)) (slice_get w.conns k))
  event_there (Tick g t) = if_here g _ (clock_there s (host_plan plan h) x t)
  event_there (Arrive k n) = tt
  event_there (Inject k bytes) = tt
  event_there (Copy k j from until) = tt

-- so an object that isn't there has no entry of its own

no_one : {X E : Type 0} (xs : List X) (i j : ℕ) (e : E) → is_some (slice_get xs j) ≡ true → slice_get xs i ≡ None → (if eqb j i then e ∷ [] else []) ≡ []
no_one xs i j e there none = cond_case (λ es. es ≡ []) (eqb j i) (e ∷ []) []
    (λ same. let not_there : false ≡ true = sym (ap is_some none) ∙ (ap (λ k. is_some (slice_get xs k)) (sym (eqb-true j i same)) ∙ there) in absurd (grind arith))
    (λ _. refl)

box_none : (b : ℕ) (o : Objects) (t : Access) → IsThere o t → slice_get o.boxes b ≡ None → box_entry b t ≡ []
box_none b o NoAccess m none = refl
box_none b o (InBox j e) m none = no_one o.boxes b j e m none
box_none b o (InLane j e) m none = refl
box_none b o (InInlet j e) m none = refl
box_none b o (InDesk e) m none = refl

lane_none : (l : ℕ) (o : Objects) (t : Access) → IsThere o t → slice_get o.queues l ≡ None → lane_entry l t ≡ []
lane_none l o NoAccess m none = refl
lane_none l o (InBox j e) m none = refl
lane_none l o (InLane j e) m none = no_one o.queues l j e m none
lane_none l o (InInlet j e) m none = refl
lane_none l o (InDesk e) m none = refl

inlet_none : (i : ℕ) (o : Objects) (t : Access) → IsThere o t → slice_get o.inlets i ≡ None → inlet_entry i t ≡ []
inlet_none i o NoAccess m none = refl
inlet_none i o (InBox j e) m none = refl
inlet_none i o (InLane j e) m none = refl
inlet_none i o (InInlet j e) m none = no_one o.inlets i j e m none
inlet_none i o (InDesk e) m none = refl

map_none : {X Y : Type 0} (f : X → Y) (o : Option X) → option_map f o ≡ None → o ≡ None
map_none f None e = refl
map_none f (Some x) e = absurd (grind arith)

module _ (s : Scheme) (plan : Plan) (w : World) (h : ℕ) where
  box_none_in : (b : ℕ) (e : Event) (q : Option Host) → onward (option_map objects q) (box_state b) ≡ None → box_entry b (access_in s plan w e h q) ≡ []
  box_none_in b e None none = refl
  box_none_in b e (Some x) none = box_none b (objects x) (access_at s plan w e h x) (event_there s plan w h x e) (map_none (λ y. y.waiting) (slice_get x.boxes b) none)

  pub no_box_entry : (b : ℕ) (e : Event) → onward (objects_at w h) (box_state b) ≡ None → box_entry b (access s plan w e h) ≡ []
  no_box_entry b e none = box_none_in b (resolve plan w e) (slice_get w.hosts h) none

  lane_none_in : (l : ℕ) (e : Event) (q : Option Host) → onward (option_map objects q) (lane_state l) ≡ None → lane_entry l (access_in s plan w e h q) ≡ []
  lane_none_in l e None none = refl
  lane_none_in l e (Some x) none = lane_none l (objects x) (access_at s plan w e h x) (event_there s plan w h x e) none

  pub no_lane_entry : (l : ℕ) (e : Event) → onward (objects_at w h) (lane_state l) ≡ None → lane_entry l (access s plan w e h) ≡ []
  no_lane_entry l e none = lane_none_in l (resolve plan w e) (slice_get w.hosts h) none

  inlet_none_in : (i : ℕ) (e : Event) (q : Option Host) → onward (option_map objects q) (inlet_state i) ≡ None → inlet_entry i (access_in s plan w e h q) ≡ []
  inlet_none_in i e None none = refl
  inlet_none_in i e (Some x) none = inlet_none i (objects x) (access_at s plan w e h x) (event_there s plan w h x e) none

  pub no_inlet_entry : (i : ℕ) (e : Event) → onward (objects_at w h) (inlet_state i) ≡ None → inlet_entry i (access s plan w e h) ≡ []
  no_inlet_entry i e none = inlet_none_in i (resolve plan w e) (slice_get w.hosts h) none

  pub no_host_access : (e : Event) → objects_at w h ≡ None → access s plan w e h ≡ NoAccess
  no_host_access e none = ap (access_in s plan w (resolve plan w e) h) (map_none objects (slice_get w.hosts h) none)
