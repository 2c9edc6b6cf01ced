-- What an event touches may stand there, and each object is the replay of its own entries.
use Rattle.std.proofs.Common.{◌≡◌, ℕ, true, List, [], ◌∷◌, Option, Some, None, slice_get, option_map, refl, sym, ◌∙◌, ap, subst, eqb, eqb-true}
use Rattle.std.specs.Prelude.{if◌then◌else◌, ◌||◌, nat_le, min, length}
use Rattle.ds_label.specs.declared.category.Category.{Category}
use Rattle.ds_script.specs.Replay.{onward, replay}
use Rattle.ds_model.specs.Scheme.{Scheme}
use Rattle.ds_model.specs.Plan.{HostPlan, Plan, host_plan, conn_plan, box_plan, lane_plan}
use Rattle.ds_model.specs.Mailbox.{TookOut, put_entry, box_enter, box_after, box_needs, box_step, oldest}
use Rattle.ds_model.specs.Lane.{Lifted, admit_entry, lane_after, lane_needs, lane_step, frame_limit}
use Rattle.ds_model.specs.Inlet.{Inlet, number_entry, inlet_after, inlet_needs, inlet_step}
use Rattle.ds_model.specs.Desk.{Ticked, desk_after, desk_needs, desk_step}
use Rattle.ds_model.specs.World.{Process, Mail, Mailbox, Waiting, Queue, Worker, Conn, Host, World}
use Rattle.ds_model.specs.ProcessStep.{Ask, Waits, Internal, Put, Admit, TakeFrom, PublicAct, AsksJudgement, ask}
use Rattle.ds_model.specs.WorkerStep.{LaneAsk, WorkerWaits, Lifts, AsksRecheck, lane_ask}
use Rattle.ds_model.specs.ConnectionStep.{ConnAsk, ConnWaits, ConnInternal, AsksInlet, AsksArrival, PutsPassed, accept, deliver}
use Rattle.ds_model.specs.Step.{Event, Step, Frame, Arrive, Accept, Deliver, Tick, Inject, Copy, arrived, resolve, step}
use Rattle.ds_model.specs.Access.{Access, NoAccess, InBox, InLane, InInlet, InDesk, put_access, take_access, take_access_in, admit_access, lift_access, lift_access_in, number_access, access_of_ask, access_of_lane_ask, access_of_conn_ask, access_of_proc, access_of_lane, access_of_conn, access_of_clock, access_at, access_in, access, accesses, Objects, objects, objects_at, objects_after, box_state, box_entry, lane_state, lane_entry, inlet_state, inlet_entry, desk_state, desk_entry, entries_of, Replayed, BoxesReplay, LanesReplay, InletsReplay, DesksReplay}
use Rattle.ds_model.proofs.Places.{cond_case, none_some, some_is}
use Rattle.ds_model.proofs.Needs.{some_more, put_may, admit_may, lift_may, number_may, act_may}
use Rattle.ds_model.proofs.Replays.{onward_some, onward_twice, replay_append, one_step, one_entry, own_entry}
use Rattle.ds_model.proofs.Touches.{step_touch}

-- the entry may stand where it is made
abbrev Meets : Scheme → HostPlan → Objects → Access → Type 0
Meets s plan o NoAccess = Unit {0}
Meets s plan o (InBox b e) = (y : Mailbox) → slice_get o.boxes b ≡ Some y → box_needs (box_plan plan b).room e y.waiting ≡ true
Meets s plan o (InLane l e) = (q : Queue) → slice_get o.queues l ≡ Some q → lane_needs (lane_plan plan l).room e q ≡ true
Meets s plan o (InInlet i e) = (y : Inlet) → slice_get o.inlets i ≡ Some y → inlet_needs e y ≡ true
Meets s plan o (InDesk e) = desk_needs s plan e o.desk ≡ true

module _ (s : Scheme) (plan : HostPlan) (x : Host) where
  put_meets : (b : ℕ) (m : Mail Category) (o : Option Mailbox) → slice_get x.boxes b ≡ o → Meets s plan (objects x) (put_access b (box_plan plan b).room m o)
  put_meets b m None e = tt
  put_meets b m (Some z) e = λ y q. subst (λ u. box_needs (box_plan plan b).room (put_entry (box_plan plan b).room m z.waiting) u.waiting ≡ true) (some_is z y (sym e ∙ q)) (put_may (box_plan plan b).room m z.waiting)

  one_waits : (waiting : List (Mail Category)) (m : Mail Category) (room : ℕ) → slice_get waiting 0 ≡ Some m → box_needs room TookOut waiting ≡ true
  one_waits [] m room e = absurd (none_some m e)
  one_waits (n ∷ waiting) m room e = some_more (length waiting)

  take_meets : (b : ℕ) (z : Mailbox) (o : Option (Mail Category)) → slice_get x.boxes b ≡ Some z → oldest z ≡ o → Meets s plan (objects x) (take_access b o)
  take_meets b z None e q = tt
  take_meets b z (Some m) e q = λ y r. one_waits y.waiting m (box_plan plan b).room (ap oldest (some_is y z (sym r ∙ e)) ∙ q)

  take_in_meets : (b : ℕ) (o : Option Mailbox) → slice_get x.boxes b ≡ o → Meets s plan (objects x) (take_access_in b o)
  take_in_meets b None e = tt
  take_in_meets b (Some z) e = take_meets b z (oldest z) e refl

  admit_meets : (l : ℕ) (m : Waiting) (o : Option Queue) → slice_get x.queues l ≡ o → Meets s plan (objects x) (admit_access l (lane_plan plan l).room m o)
  admit_meets l m None e = tt
  admit_meets l m (Some z) e = λ y q. subst (λ u. lane_needs (lane_plan plan l).room (admit_entry (lane_plan plan l).room m z) u ≡ true) (some_is z y (sym e ∙ q)) (admit_may (lane_plan plan l).room m z)

  lift_meets : (l : ℕ) (z : Queue) → slice_get x.queues l ≡ Some z → Meets s plan (objects x) (lift_access l z)
  lift_meets l [] e = tt
  lift_meets l (m ∷ z) e = λ y q. subst (λ u. lane_needs (lane_plan plan l).room (Lifted (min frame_limit (length (m ∷ z)))) u ≡ true) (some_is (m ∷ z) y (sym e ∙ q)) (lift_may (lane_plan plan l).room m z)

  lift_in_meets : (l : ℕ) (o : Option Queue) → slice_get x.queues l ≡ o → Meets s plan (objects x) (lift_access_in l o)
  lift_in_meets l None e = tt
  lift_in_meets l (Some z) e = lift_meets l z e

  number_meets : (i n : ℕ) (o : Option Inlet) → slice_get x.inlets i ≡ o → Meets s plan (objects x) (number_access i n o)
  number_meets i n None e = tt
  number_meets i n (Some z) e = λ y q. subst (λ u. inlet_needs (number_entry n z) u ≡ true) (some_is z y (sym e ∙ q)) (number_may n z)

  ask_meets : (p : ℕ) (a : Ask) → Meets s plan (objects x) (access_of_ask s plan x p a)
  ask_meets p Waits = tt
  ask_meets p (Internal next) = tt
  ask_meets p (Put b m next) = put_meets b m (slice_get x.boxes b) refl
  ask_meets p (Admit l m next) = admit_meets l (record { sender = p; message = m }) (slice_get x.queues l) refl
  ask_meets p (TakeFrom b reg slot) = take_in_meets b (slice_get x.boxes b) refl
  ask_meets p (PublicAct act reg host) = act_may s plan x.desk act
  ask_meets p (AsksJudgement m) = refl

  proc_meets : (p : ℕ) (o : Option Process) → Meets s plan (objects x) (access_of_proc s plan x p o)
  proc_meets p None = tt
  proc_meets p (Some y) = ask_meets p (ask plan p y)

  lane_meets : (l : ℕ) (a : LaneAsk) → Meets s plan (objects x) (access_of_lane_ask x l a)
  lane_meets l WorkerWaits = tt
  lane_meets l Lifts = lift_in_meets l (slice_get x.queues l) refl
  lane_meets l (AsksRecheck hand) = refl

  worker_meets : (l : ℕ) (o : Option Worker) → Meets s plan (objects x) (access_of_lane s plan x l o)
  worker_meets l None = tt
  worker_meets l (Some e) = lane_meets l (lane_ask s (lane_plan plan l) e)

  conn_meets : (a : ConnAsk) → Meets s plan (objects x) (access_of_conn_ask plan x a)
  conn_meets ConnWaits = tt
  conn_meets (ConnInternal next) = tt
  conn_meets (AsksInlet i n fresh stale) = number_meets i n (slice_get x.inlets i) refl
  conn_meets (AsksArrival lane m rest) = refl
  conn_meets (PutsPassed b m next) = put_meets b m (slice_get x.boxes b) refl

  end_meets : (asks : Conn → ConnAsk) (o : Option Conn) → Meets s plan (objects x) (access_of_conn plan asks x o)
  end_meets asks None = tt
  end_meets asks (Some y) = conn_meets (asks y)

  clock_meets : (t : ℕ) → Meets s plan (objects x) (access_of_clock plan x.desk.moment t)
  clock_meets t = cond_case (Meets s plan (objects x)) (plan.silent || nat_le t x.desk.moment) NoAccess (InDesk (Ticked t)) (λ _. tt) (λ _. refl)

module _ (s : Scheme) (plan : Plan) (w : World) (h : ℕ) (x : Host) where
  if_here : (g : ℕ) (t : Access) → Meets s (host_plan plan h) (objects x) t → Meets s (host_plan plan h) (objects x) (if eqb h g then t else NoAccess)
  if_here g t m = cond_case (Meets s (host_plan plan h) (objects x)) (eqb h g) t NoAccess (λ _. m) (λ _. tt)

  event_meets : (e : Event) → Meets s (host_plan plan h) (objects x) (access_at s plan w e h x)
  event_meets (Step g p) = if_here g _ (proc_meets s (host_plan plan h) x p (slice_get x.procs p))
  event_meets (Frame g l) = if_here g _ (worker_meets s (host_plan plan h) x l (slice_get x.workers l))
  event_meets (Accept k) = if_here (conn_plan plan k).host _ (end_meets s (host_plan plan h) x (λ conn. accept s (host_plan plan h) conn (arrived w (conn_plan plan k).source conn)) (slice_get w.conns k))
  event_meets (Deliver k) = if_here (conn_plan plan k).host _ (end_meets s (host_plan plan h) x (λ conn. deliver s (host_plan plan h) conn (arrived w (conn_plan plan k).source conn)) (slice_get w.conns k))
  event_meets (Tick g t) = if_here g _ (clock_meets s (host_plan plan h) x t)
  event_meets (Arrive k n) = tt
  event_meets (Inject k bytes) = tt
  event_meets (Copy k j from until) = tt

-- each object's state moves by its own entries

module _ (s : Scheme) (plan : HostPlan) (o : Objects) where
  box_moves : (b : ℕ) (t : Access) → Meets s plan o t → onward (box_state b o) (λ v. replay (box_step (box_plan plan b).room) v (box_entry b t)) ≡ box_state b (objects_after plan.key t o)
  box_moves b NoAccess m = onward_some (box_state b o)
  box_moves b (InLane j e) m = onward_some (box_state b o)
  box_moves b (InInlet j e) m = onward_some (box_state b o)
  box_moves b (InDesk e) m = onward_some (box_state b o)
  box_moves b (InBox j e) m = one_entry (λ y. y.waiting) box_enter (box_needs (box_plan plan b).room) box_after (λ f y. refl) o.boxes b j e
      (λ p y q. subst (λ i. box_needs (box_plan plan i).room e y.waiting ≡ true) (eqb-true j b p) (m y q))

  lane_moves : (l : ℕ) (t : Access) → Meets s plan o t → onward (lane_state l o) (λ v. replay (lane_step (lane_plan plan l).room) v (lane_entry l t)) ≡ lane_state l (objects_after plan.key t o)
  lane_moves l NoAccess m = onward_some (lane_state l o)
  lane_moves l (InBox j e) m = onward_some (lane_state l o)
  lane_moves l (InInlet j e) m = onward_some (lane_state l o)
  lane_moves l (InDesk e) m = onward_some (lane_state l o)
  lane_moves l (InLane j e) m = own_entry (lane_needs (lane_plan plan l).room) lane_after o.queues l j e
      (λ p y q. subst (λ i. lane_needs (lane_plan plan i).room e y ≡ true) (eqb-true j l p) (m y q))

  inlet_moves : (i : ℕ) (t : Access) → Meets s plan o t → onward (inlet_state i o) (λ v. replay inlet_step v (inlet_entry i t)) ≡ inlet_state i (objects_after plan.key t o)
  inlet_moves i NoAccess m = onward_some (inlet_state i o)
  inlet_moves i (InBox j e) m = onward_some (inlet_state i o)
  inlet_moves i (InLane j e) m = onward_some (inlet_state i o)
  inlet_moves i (InDesk e) m = onward_some (inlet_state i o)
  inlet_moves i (InInlet j e) m = own_entry inlet_needs inlet_after o.inlets i j e (λ p y q. m y q)

  desk_moves : (t : Access) → Meets s plan o t → onward (desk_state o) (λ v. replay (desk_step s plan) v (desk_entry t)) ≡ desk_state (objects_after plan.key t o)
  desk_moves NoAccess m = refl
  desk_moves (InBox j e) m = refl
  desk_moves (InLane j e) m = refl
  desk_moves (InInlet j e) m = refl
  desk_moves (InDesk e) m = one_step (desk_needs s plan) (desk_after plan.key) o.desk e m

-- along a run

module _ {S E : Type 0} (s : Scheme) (plan : Plan) (h : ℕ) (state : Objects → Option S) (own : Access → List E) (one : S → E → Option S)
    (moves : (t : Access) (o : Objects) → Meets s (host_plan plan h) o t → onward (state o) (λ v. replay one v (own t)) ≡ state (objects_after (host_plan plan h).key t o)) where
  on_host_moves : (w : World) (e : Event) (q : Option Host) → onward (onward (option_map objects q) state) (λ v. replay one v (own (access_in s plan w e h q))) ≡ onward (option_map (objects_after (host_plan plan h).key (access_in s plan w e h q)) (option_map objects q)) state
  on_host_moves w e None = refl
  on_host_moves w e (Some x) = moves (access_at s plan w e h x) (objects x) (event_meets s plan w h x e)

  event_moves : (w : World) (e : Event) → onward (onward (objects_at w h) state) (λ v. replay one v (own (access s plan w e h))) ≡ onward (objects_at (step s plan w e) h) state
  event_moves w e = on_host_moves w (resolve plan w e) (slice_get w.hosts h) ∙ ap (λ o. onward o state) (sym (step_touch s plan w e h))

  run_moves : (events : List Event) (w : World) → Replayed s plan h state own one w events
  run_moves [] w = onward_some (onward (objects_at w h) state)
  run_moves (e ∷ events) w =
      ap (onward (onward (objects_at w h) state)) (λ i v. replay_append one v (own (access s plan w e h)) (entries_of own (accesses s plan (step s plan w e) events h)) i)
      ∙ (onward_twice (onward (objects_at w h) state) (λ v. replay one v (own (access s plan w e h))) (λ v. replay one v (entries_of own (accesses s plan (step s plan w e) events h)))
      ∙ (ap (λ o. onward o (λ v. replay one v (entries_of own (accesses s plan (step s plan w e) events h)))) (event_moves w e)
      ∙ run_moves events (step s plan w e)))

pub boxes_replay : BoxesReplay
boxes_replay s plan w events h b = run_moves s plan h (box_state b) (box_entry b) (box_step (box_plan (host_plan plan h) b).room) (λ t o m. box_moves s (host_plan plan h) o b t m) events w

pub lanes_replay : LanesReplay
lanes_replay s plan w events h l = run_moves s plan h (lane_state l) (lane_entry l) (lane_step (lane_plan (host_plan plan h) l).room) (λ t o m. lane_moves s (host_plan plan h) o l t m) events w

pub inlets_replay : InletsReplay
inlets_replay s plan w events h i = run_moves s plan h (inlet_state i) (inlet_entry i) inlet_step (λ t o m. inlet_moves s (host_plan plan h) o i t m) events w

pub desks_replay : DesksReplay
desks_replay s plan w events h = run_moves s plan h desk_state desk_entry (desk_step s (host_plan plan h)) (λ t o m. desk_moves s (host_plan plan h) o t m) events w
