-- What changes nothing touches nothing, and what touches nothing and isn't its actor's own affair changes nothing.
use Rattle.std.proofs.Common.{◌≡◌, ℕ, zero, suc, ◌<◌, ◌≤◌, ◌+◌, Bool, true, false, cond, List, [], ◌∷◌, Option, Some, None, length, slice_get, option_map, take, min, refl, sym, ◌∙◌, ap, subst, arith, eqb, eq-eqb, length-take}
use Rattle.std.specs.Prelude.{not, ◌||◌, max, nat_le, if◌then◌else◌}
use Rattle.std.specs.Option.{is_some}
use Rattle.std.proofs.lemmas.Bool.Decides.{nat_tests}
use Rattle.std.proofs.lemmas.Slice.Eq.{bytes_eq-Decides}
use Rattle.ds_label.specs.declared.category.Category.{Category}
use Rattle.ds_label.specs.declared.category.PubKey.{PubKey}
use Rattle.ds_label.specs.declared.rule.Rule.{Rule}
use Rattle.ds_label.specs.Flow.{union}
use Rattle.ds_label.specs.Names.{by_name}
use Rattle.ds_cert.specs.declared.lane.LaneCert.{LaneCert}
use Rattle.ds_cert.specs.declared.cert.Cert.{Cert}
use Rattle.ds_cert.specs.declared.delegation.Delegation.{Delegation}
use Rattle.ds_script.specs.Inner.{Course}
use Rattle.ds_msg.specs.declared.message.Message.{Message}
use Rattle.ds_model.specs.ProcessRules.{can_grant}
use Rattle.ds_model.specs.Scheme.{Scheme}
use Rattle.ds_model.specs.Plan.{HostPlan, LanePlan, Plan, host_plan, lane_plan, box_plan, conn_plan}
use Rattle.ds_model.specs.Mailbox.{oldest}
use Rattle.ds_model.specs.Lane.{front, frame_limit}
use Rattle.ds_model.specs.Inlet.{Inlet}
use Rattle.ds_model.specs.Desk.{Desk, DeskEntry, Looked, Delegated, Imported, Mapped, Ticked, desk_after, Act, Delegating, Importing, Mapping, import_entry, entry_unless, act_entry, reply_of}
use Rattle.ds_model.specs.World.{Process, Mail, Mailbox, Waiting, Queue, Worker, Conn, Host, World}
use Rattle.ds_model.specs.ProcessStep.{granted, Ask, Waits, Internal, Put, Admit, TakeFrom, PublicAct, AsksJudgement, ask, taken_after_reply, act_course, act_after_reply, judged_after_reply}
use Rattle.ds_model.specs.WorkerStep.{LaneAsk, WorkerWaits, Lifts, AsksRecheck, lane_ask_hand, lane_ask, rechecked, still_good, with_frame}
use Rattle.ds_model.specs.ConnectionStep.{ConnAsk, ConnWaits, ConnInternal, AsksInlet, AsksArrival, PutsPassed, accept, deliver, judge_delivery, delivery_after_reply}
use Rattle.ds_model.specs.Step.{Event, Step, Frame, Arrive, Accept, Deliver, Tick, Inject, Copy, oldest_in, judged, attached, front_of, worker_at, fresh_in, arrived, step_conn, ticked, resolve, step}
use Rattle.ds_model.specs.Views.{IsStill, proc_in, proc_at}
use Rattle.ds_model.specs.Schedule.{proc_numbers, worker_numbers, conn_numbers, desk_numbers, numbers_of}
use Rattle.ds_model.specs.Access.{Access, NoAccess, InDesk, InBox, InLane, InInlet, put_access, take_access, take_access_in, admit_access, lift_access_in, number_access, access_of_ask, access_of_lane_ask, access_of_conn_ask, access_of_proc, access_of_lane, access_of_conn, access_of_clock, access_at, access_in, access}
use Rattle.ds_model.specs.Replies.{proc_reply, proc_after_reply, worker_reply, worker_after_reply, conn_reply, conn_after_reply}
use Rattle.ds_model.proofs.Places.{at_here, cond_case, none_some, some_is}
use Rattle.ds_model.proofs.Touches.{not_raised}
use Rattle.ds_model.proofs.Moves.{finds_still}
use Rattle.ds_replay.specs.Touches.{touch_of, host_of, is_inside, inside_proc, is_own_step, inside_conn, is_inner}
use Rattle.ds_replay.specs.Told.{answer_to_proc, answer_to_worker, answer_to_conn, answer_in}
use Rattle.ds_replay.specs.Laws.{HasObjects, StillTouchesNothing, ElseIsStill}
use Rattle.ds_replay.proofs.Learning.{processes_learn, workers_learn, connections_learn}
use Rattle.ds_replay.proofs.Asks.{first_within, AskFacts, ConnFacts, ask_facts, accept_facts, deliver_facts}

forward : (n : ℕ) → n + 1 ≡ n → ⊥
forward n e = omega (arith, e)

further : (n : ℕ) → suc n ≡ n → ⊥
further n e = omega (arith, e)

longer : (m : Message) (rest : List Message) → rest ≡ m ∷ rest → ⊥
longer m rest e = let long : length rest ≡ suc (length rest) = ap length e in omega (arith, long)

-- a thing that is within a list is there
there : {X : Type 0} (xs : List X) (i n : ℕ) → i < n → n ≤ length xs → (x : X) × (slice_get xs i ≡ Some x)
there {X} xs i n below most = go xs i (omega (arith, below, most))
  where
    go : (ys : List X) (j : ℕ) → j < length ys → (x : X) × (slice_get ys j ≡ Some x)
    go [] j less = absurd (omega (arith, less))
    go (y ∷ ys) zero less = (y, refl)
    go (y ∷ ys) (suc j) less = go ys j (omega (arith, less))

-- A PROCESS

in_desk : {X : Type 0} (entry : DeskEntry) → InDesk entry ≡ NoAccess → X
in_desk entry e = absurd (grind arith)

admit_else : {X : Type 0} (l room : ℕ) (m : Waiting) (o : Option Queue) (z : Queue) → o ≡ Some z → admit_access l room m o ≡ NoAccess → X
admit_else l room m None z is e = absurd (none_some z is)
admit_else l room m (Some u) z is e = absurd (grind arith)

put_else : {X : Type 0} (b room : ℕ) (m : Mail Category) (o : Option Mailbox) (z : Mailbox) → o ≡ Some z → put_access b room m o ≡ NoAccess → X
put_else b room m None z is e = absurd (none_some z is)
put_else b room m (Some u) z is e = absurd (grind arith)

granted_place : (m : Mail Category) (y : Process) → (granted m y).course.place ≡ y.course.place
granted_place m y = cond_case (λ (z : Process). z.course.place ≡ y.course.place) (can_grant by_name y.own y.clear m.own m.clear) (record y { own = union by_name y.own m.own; clear = union by_name y.clear m.clear }) y (λ _. refl) (λ _. refl)

module _ (s : Scheme) (plan : HostPlan) (d : Desk) (reg host : ℕ) (c : Course) where
  delegating_moves : (cat : Category) (to : PubKey) (from until : ℕ) (new : Delegation) (r : Option Rule) → (act_course reg host (Delegating cat to from until) (reply_of s plan d (entry_unless r (Delegated new))) c).place ≡ c.place + 1
  delegating_moves cat to from until new None = refl
  delegating_moves cat to from until new (Some rule) = refl

  importing_moves : (bytes : List ℕ) (new : Cert) (r : Option Rule) → (act_course reg host (Importing bytes) (reply_of s plan d (entry_unless r (Imported new))) c).place ≡ c.place + 1
  importing_moves bytes new None = refl
  importing_moves bytes new (Some rule) = refl

  reading_moves : (bytes : List ℕ) (o : Option Cert) → (act_course reg host (Importing bytes) (reply_of s plan d (import_entry s d o)) c).place ≡ c.place + 1
  reading_moves bytes None = refl
  reading_moves bytes (Some new) = importing_moves bytes new _

  mapping_moves : (cat : Category) (r : Option Rule) → (act_course reg host (Mapping cat) (reply_of s plan d (entry_unless r (Mapped cat))) c).place ≡ c.place + 1
  mapping_moves cat None = refl
  mapping_moves cat (Some rule) = refl

  act_moves : (act : Act) → (act_course reg host act (reply_of s plan d (act_entry s plan d act)) c).place ≡ c.place + 1
  act_moves (Delegating cat to from until) = delegating_moves cat to from until _ _
  act_moves (Importing bytes) = reading_moves bytes (s.read_cert bytes)
  act_moves (Mapping cat) = mapping_moves cat _

-- a process that stays as it is isn't at another place
stayed : (y next : Process) → next.course.place ≡ y.course.place + 1 → next ≡ y → ⊥
stayed y next on e = forward y.course.place (sym on ∙ ap (λ (z : Process). z.course.place) e)

module _ (s : Scheme) (plan : HostPlan) (x : Host) (y : Process) where
  oldest_still : (b reg slot : ℕ) (o : Option (Mail Category)) → taken_after_reply reg slot o y ≡ y → take_access b o ≡ NoAccess
  oldest_still b reg slot None e = refl
  oldest_still b reg slot (Some m) e = absurd (stayed y (taken_after_reply reg slot (Some m) y) (ap (λ n. n + 1) (granted_place m y)) e)

  take_still : (b reg slot : ℕ) (o : Option Mailbox) → taken_after_reply reg slot (oldest_in o) y ≡ y → take_access_in b o ≡ NoAccess
  take_still b reg slot None e = refl
  take_still b reg slot (Some z) e = oldest_still b reg slot (oldest z) e

  judge_still : (m : Message) (certs : List (List ℕ)) (r : Option Rule) → y.hand ≡ None → judged_after_reply m certs r y ≡ y → ⊥
  judge_still m certs (Some rule) h e = stayed y (judged_after_reply m certs (Some rule) y) refl e
  judge_still m certs None h e = none_some (record m { certs = certs }) (sym h ∙ ap (λ (z : Process). z.hand) (sym e))

  ask_still : (p : ℕ) (a : Ask) → AskFacts plan y a → proc_after_reply a (proc_reply s plan x a) y ≡ y → access_of_ask s plan x p a ≡ NoAccess
  ask_still p Waits f e = refl
  ask_still p (Internal next) f e = refl
  ask_still p (Put b m next) f e = absurd (stayed y next f.1 e)
  ask_still p (Admit l m next) f e = absurd (stayed y next f.1 e)
  ask_still p (TakeFrom b reg slot) f e = take_still b reg slot (slice_get x.boxes b) e
  ask_still p (PublicAct act reg host) f e = absurd (stayed y (act_after_reply reg host act (reply_of s plan x.desk (act_entry s plan x.desk act)) y) (act_moves s plan x.desk reg host y.course act) e)
  ask_still p (AsksJudgement m) f e = absurd (judge_still m (attached s plan x.desk m) (judged s plan x.desk m) f e)

  -- and the other way round

  oldest_else : (b reg slot : ℕ) (o : Option (Mail Category)) → take_access b o ≡ NoAccess → taken_after_reply reg slot o y ≡ y
  oldest_else b reg slot None e = refl
  oldest_else b reg slot (Some m) e = absurd (grind arith)

  take_else : (b reg slot : ℕ) (o : Option Mailbox) → take_access_in b o ≡ NoAccess → taken_after_reply reg slot (oldest_in o) y ≡ y
  take_else b reg slot None e = refl
  take_else b reg slot (Some z) e = oldest_else b reg slot (oldest z) e

  ask_else : (p : ℕ) (a : Ask) → HasObjects plan x → AskFacts plan y a → access_of_ask s plan x p a ≡ NoAccess → is_inside a ≡ false → proc_after_reply a (proc_reply s plan x a) y ≡ y
  ask_else p Waits has f e i = refl
  ask_else p (Internal next) has f e i = absurd (grind arith)
  ask_else p (Put b m next) has f e i = let at = there x.boxes b (length plan.boxes) (first_within plan (box_plan plan b).slot b f.0) has.boxes in put_else b (box_plan plan b).room m (slice_get x.boxes b) at.0 at.1 e
  ask_else p (Admit l m next) has f e i = let at = there x.queues l (length plan.lanes) f.0 has.queues in admit_else l (lane_plan plan l).room (record { sender = p; message = m }) (slice_get x.queues l) at.0 at.1 e
  ask_else p (TakeFrom b reg slot) has f e i = take_else b reg slot (slice_get x.boxes b) e
  ask_else p (PublicAct act reg host) has f e i = in_desk (act_entry s plan x.desk act) e
  ask_else p (AsksJudgement m) has f e i = in_desk Looked e

module _ (s : Scheme) (plan : HostPlan) (x : Host) where
  proc_still : (p : ℕ) (o : Option Process) → option_map (λ z. proc_after_reply (ask plan p z) (answer_to_proc s plan x p o) z) o ≡ o → access_of_proc s plan x p o ≡ NoAccess
  proc_still p None e = refl
  proc_still p (Some z) e = ask_still s plan x z p (ask plan p z) (ask_facts plan z p) (some_is _ _ e)

  proc_else : (p : ℕ) (o : Option Process) → HasObjects plan x → access_of_proc s plan x p o ≡ NoAccess → inside_proc plan p o ≡ false → option_map (λ z. proc_after_reply (ask plan p z) (answer_to_proc s plan x p o) z) o ≡ o
  proc_else p None has e i = refl
  proc_else p (Some z) has e i = ap Some (ask_else s plan x z p (ask plan p z) has (ask_facts plan z p) e i)

-- A LANE'S WORKER

abbrev LaneFacts : Worker → LaneAsk → Type 0
LaneFacts e WorkerWaits = Unit {0}
LaneFacts e Lifts = e.hand ≡ []
LaneFacts e (AsksRecheck hand) = e.hand ≡ [] → ⊥

lane_facts : (s : Scheme) (plan : LanePlan) (e : Worker) (hand : List Waiting) → e.hand ≡ hand → LaneFacts e (lane_ask_hand s plan e hand)
lane_facts s plan e [] h = cond_case (LaneFacts e) (s.has_lane_leaf plan.signing e.leaf) Lifts WorkerWaits (λ _. h) (λ _. tt)
lane_facts s plan e (m ∷ hand) h = λ none. let no : [] ≡ m ∷ hand = sym none ∙ h in grind arith

framed_hand : (s : Scheme) (plan : LanePlan) (e : Worker) (good : List Waiting) → (with_frame s plan e good).hand ≡ []
framed_hand s plan e [] = refl
framed_hand s plan e (m ∷ rest) = refl

long_front : (m : Waiting) (q : Queue) → front (m ∷ q) ≡ [] → ⊥
long_front m q e =
    let long : length (take (min frame_limit (length (m ∷ q))) (m ∷ q)) ≡ min (min frame_limit (length (m ∷ q))) (length (m ∷ q)) = length-take (min frame_limit (length (m ∷ q))) (m ∷ q) in
    let none : length (front (m ∷ q)) ≡ 0 = ap length e in
    omega (arith, long, none)

module _ (s : Scheme) (plan : HostPlan) (x : Host) (l : ℕ) (k : Worker) where
  front_still : (o : Option Queue) → k.hand ≡ [] → record k { hand = front_of o } ≡ k → lift_access_in l o ≡ NoAccess
  front_still None h e = refl
  front_still (Some []) h e = refl
  front_still (Some (m ∷ q)) h e = absurd (long_front m q (ap (λ (z : Worker). z.hand) e ∙ h))

  front_else : (o : Option Queue) → k.hand ≡ [] → lift_access_in l o ≡ NoAccess → record k { hand = front_of o } ≡ k
  front_else None h e = λ i. record k { hand = sym h i }
  front_else (Some []) h e = λ i. record k { hand = sym h i }
  front_else (Some (m ∷ q)) h e = absurd (grind arith)

  lane_still : (a : LaneAsk) → LaneFacts k a → worker_after_reply s plan l a (worker_reply s x l a) k ≡ k → access_of_lane_ask x l a ≡ NoAccess
  lane_still WorkerWaits f e = refl
  lane_still Lifts f e = front_still (slice_get x.queues l) f e
  lane_still (AsksRecheck hand) f e = absurd (f (sym (ap (λ (z : Worker). z.hand) e) ∙ framed_hand s (lane_plan plan l) k (still_good (rechecked s x.desk hand) k.hand)))

  lane_else : (a : LaneAsk) → LaneFacts k a → access_of_lane_ask x l a ≡ NoAccess → worker_after_reply s plan l a (worker_reply s x l a) k ≡ k
  lane_else WorkerWaits f e = refl
  lane_else Lifts f e = front_else (slice_get x.queues l) f e
  lane_else (AsksRecheck hand) f e = in_desk Looked e

module _ (s : Scheme) (plan : HostPlan) (x : Host) (l : ℕ) where
  worker_still : (o : Option Worker) → option_map (λ k. worker_after_reply s plan l (lane_ask s (lane_plan plan l) k) (answer_to_worker s plan x l o) k) o ≡ o → access_of_lane s plan x l o ≡ NoAccess
  worker_still None e = refl
  worker_still (Some k) e = lane_still s plan x l k (lane_ask s (lane_plan plan l) k) (lane_facts s (lane_plan plan l) k k.hand refl) (some_is _ _ e)

  worker_else : (o : Option Worker) → access_of_lane s plan x l o ≡ NoAccess → option_map (λ k. worker_after_reply s plan l (lane_ask s (lane_plan plan l) k) (answer_to_worker s plan x l o) k) o ≡ o
  worker_else None e = refl
  worker_else (Some k) e = ap Some (lane_else s plan x l k (lane_ask s (lane_plan plan l) k) (lane_facts s (lane_plan plan l) k k.hand refl) e)

-- A CONNECTION

delivered_hand : (lane : LaneCert) (m : Message) (rest : List Message) (r : Option Rule) (y : Conn) → (delivery_after_reply lane m rest r y).hand ≡ rest
delivered_hand lane m rest None y = refl
delivered_hand lane m rest (Some rule) y = refl

taken_moves : (y fresh stale : Conn) (b : Bool) → fresh.taken ≡ suc y.taken → stale.taken ≡ suc y.taken → cond b fresh stale ≡ y → ⊥
taken_moves y fresh stale true f g e = further y.taken (sym f ∙ ap (λ (z : Conn). z.taken) e)
taken_moves y fresh stale false f g e = further y.taken (sym g ∙ ap (λ (z : Conn). z.taken) e)

module _ (s : Scheme) (plan : HostPlan) (x : Host) (y : Conn) where
  conn_still : (a : ConnAsk) → ConnFacts plan y a → conn_after_reply a (conn_reply s plan x a) y ≡ y → access_of_conn_ask plan x a ≡ NoAccess
  conn_still ConnWaits f e = refl
  conn_still (ConnInternal next) f e = refl
  conn_still (AsksInlet i n fresh stale) f e = absurd (taken_moves y fresh stale (fresh_in n (slice_get x.inlets i)) f.1 f.2 e)
  conn_still (AsksArrival lane m rest) f e = absurd (longer m rest (sym (delivered_hand lane m rest (judge_delivery s plan x.desk lane m) y) ∙ (ap (λ (z : Conn). z.hand) e ∙ f)))
  conn_still (PutsPassed b m next) f e = let no : false ≡ true = ap is_some (sym f.1 ∙ ap (λ (z : Conn). z.passed) e) ∙ f.2 in absurd (grind arith)

  number_else : {X : Type 0} (i n : ℕ) (o : Option Inlet) (z : Inlet) → o ≡ Some z → number_access i n o ≡ NoAccess → X
  number_else i n None z is e = absurd (none_some z is)
  number_else i n (Some u) z is e = absurd (grind arith)

  conn_else : (a : ConnAsk) → HasObjects plan x → ConnFacts plan y a → access_of_conn_ask plan x a ≡ NoAccess → is_own_step a ≡ false → conn_after_reply a (conn_reply s plan x a) y ≡ y
  conn_else ConnWaits has f e i = refl
  conn_else (ConnInternal next) has f e i = absurd (grind arith)
  conn_else (AsksInlet j n fresh stale) has f e i = let at = there x.inlets j (length plan.inlets) f.0 has.inlets in number_else j n (slice_get x.inlets j) at.0 at.1 e
  conn_else (AsksArrival lane m rest) has f e i = in_desk Looked e
  conn_else (PutsPassed b m next) has f e i = let at = there x.boxes b (length plan.boxes) (first_within plan (box_plan plan b).slot b f.0) has.boxes in put_else b (box_plan plan b).room m (slice_get x.boxes b) at.0 at.1 e

module _ (s : Scheme) (plan : HostPlan) (x : Host) (asks : Conn → ConnAsk) (facts : (y : Conn) → ConnFacts plan y (asks y)) where
  end_still : (o : Option Conn) → option_map (λ y. conn_after_reply (asks y) (answer_to_conn s plan asks x o) y) o ≡ o → access_of_conn plan asks x o ≡ NoAccess
  end_still None e = refl
  end_still (Some y) e = conn_still s plan x y (asks y) (facts y) (some_is _ _ e)

  end_else : (o : Option Conn) → HasObjects plan x → access_of_conn plan asks x o ≡ NoAccess → inside_conn asks o ≡ false → option_map (λ y. conn_after_reply (asks y) (answer_to_conn s plan asks x o) y) o ≡ o
  end_else None has e i = refl
  end_else (Some y) has e i = ap Some (conn_else s plan x y (asks y) has (facts y) e i)

-- WHOLE WORLDS

pub when_here : (g : ℕ) (t : Access) → (if eqb g g then t else NoAccess) ≡ t
when_here g t = ap (λ b. if b then t else NoAccess) (eq-eqb g g refl)

untouched : (h : ℕ) (t : Access) → touch_of h t ≡ None → t ≡ NoAccess
untouched h NoAccess e = refl
untouched h (InDesk entry) e = absurd (grind arith)
untouched h (InBox b entry) e = absurd (grind arith)
untouched h (InLane l entry) e = absurd (grind arith)
untouched h (InInlet i entry) e = absurd (grind arith)

clock_still : (plan : HostPlan) (x : Host) (t : ℕ) → ticked plan t x ≡ x → access_of_clock plan x.desk.moment t ≡ NoAccess
clock_still plan x t = go plan.silent (nat_le t x.desk.moment) refl
  where
    go : (z b : Bool) → nat_le t x.desk.moment ≡ b → (if z then x else record x { desk = desk_after plan.key (Ticked t) x.desk }) ≡ x → (if z || b then NoAccess else InDesk (Ticked t)) ≡ NoAccess
    go true b q e = refl
    go false true q e = refl
    go false false q e = let same : max x.desk.moment t ≡ x.desk.moment = ap (λ (y : Host). y.desk.moment) e in absurd (grind (arith, nat_tests))

clock_else : (plan : HostPlan) (x : Host) (t : ℕ) → access_of_clock plan x.desk.moment t ≡ NoAccess → (ticked plan t x).desk.moment ≡ x.desk.moment
clock_else plan x t = go plan.silent (nat_le t x.desk.moment) refl
  where
    go : (z b : Bool) → nat_le t x.desk.moment ≡ b → (if z || b then NoAccess else InDesk (Ticked t)) ≡ NoAccess → (if z then x else record x { desk = desk_after plan.key (Ticked t) x.desk }).desk.moment ≡ x.desk.moment
    go true b q e = refl
    go false true q e = not_raised x.desk.moment t q
    go false false q e = absurd (grind arith)

nothing_in : (s : Scheme) (plan : Plan) (w : World) (e : Event) (h : ℕ) (q : Option Host) → ((x : Host) → access_at s plan w e h x ≡ NoAccess) → access_in s plan w e h q ≡ NoAccess
nothing_in s plan w e h None each = refl
nothing_in s plan w e h (Some x) each = each x

module _ (s : Scheme) (plan : Plan) (w : World) where
  step_still : (h p : ℕ) (q : Option Host) → option_map (λ y. proc_after_reply (ask (host_plan plan h) p y) (answer_in s plan w (Step h p) q) y) (proc_in q p) ≡ proc_in q p → access_in s plan w (Step h p) h q ≡ NoAccess
  step_still h p None e = refl
  step_still h p (Some x) e = when_here h _ ∙ proc_still s (host_plan plan h) x p (slice_get x.procs p) e

  frame_still : (h l : ℕ) (q : Option Host) → option_map (λ k. worker_after_reply s (host_plan plan h) l (lane_ask s (lane_plan (host_plan plan h) l) k) (answer_in s plan w (Frame h l) q) k) (worker_at q l) ≡ worker_at q l → access_in s plan w (Frame h l) h q ≡ NoAccess
  frame_still h l None e = refl
  frame_still h l (Some x) e = when_here h _ ∙ worker_still s (host_plan plan h) x l (slice_get x.workers l) e

  accept_still : (k : ℕ) (q : Option Host) → slice_get w.hosts (conn_plan plan k).host ≡ q → IsStill s plan w (Accept k) → access_in s plan w (Accept k) (conn_plan plan k).host q ≡ NoAccess
  accept_still k None is same = refl
  accept_still k (Some x) is same = when_here (conn_plan plan k).host _ ∙ end_still s (host_plan plan (conn_plan plan k).host) x (λ conn. accept s (host_plan plan (conn_plan plan k).host) conn (arrived w (conn_plan plan k).source conn))
      (λ y. accept_facts s (host_plan plan (conn_plan plan k).host) y (arrived w (conn_plan plan k).source y)) (slice_get w.conns k)
      (subst (λ o. option_map (λ y. conn_after_reply (accept s (host_plan plan (conn_plan plan k).host) y (arrived w (conn_plan plan k).source y)) (answer_in s plan w (Accept k) o) y) (slice_get w.conns k) ≡ slice_get w.conns k) is
      (sym (connections_learn s plan w k x is).0 ∙ ap (λ (v : World). slice_get v.conns k) same))

  deliver_still : (k : ℕ) (q : Option Host) → slice_get w.hosts (conn_plan plan k).host ≡ q → IsStill s plan w (Deliver k) → access_in s plan w (Deliver k) (conn_plan plan k).host q ≡ NoAccess
  deliver_still k None is same = refl
  deliver_still k (Some x) is same = when_here (conn_plan plan k).host _ ∙ end_still s (host_plan plan (conn_plan plan k).host) x (λ conn. deliver s (host_plan plan (conn_plan plan k).host) conn (arrived w (conn_plan plan k).source conn))
      (λ y. deliver_facts s (host_plan plan (conn_plan plan k).host) y (arrived w (conn_plan plan k).source y)) (slice_get w.conns k)
      (subst (λ o. option_map (λ y. conn_after_reply (deliver s (host_plan plan (conn_plan plan k).host) y (arrived w (conn_plan plan k).source y)) (answer_in s plan w (Deliver k) o) y) (slice_get w.conns k) ≡ slice_get w.conns k) is
      (sym (connections_learn s plan w k x is).1 ∙ ap (λ (v : World). slice_get v.conns k) same))

  tick_still : (h t : ℕ) (q : Option Host) → option_map (ticked (host_plan plan h) t) q ≡ q → access_in s plan w (Tick h t) h q ≡ NoAccess
  tick_still h t None e = refl
  tick_still h t (Some x) e = when_here h _ ∙ clock_still (host_plan plan h) x t (some_is _ _ e)

  event_still : (e : Event) → IsStill s plan w e → access s plan w e (host_of plan e) ≡ NoAccess
  event_still (Step h p) same = step_still h p (slice_get w.hosts h) (sym (processes_learn s plan w h p) ∙ ap (λ v. proc_at v h p) same)
  event_still (Frame h l) same = frame_still h l (slice_get w.hosts h) (sym (workers_learn s plan w h l) ∙ ap (λ (v : World). worker_at (slice_get v.hosts h) l) same)
  event_still (Accept k) same = accept_still k (slice_get w.hosts (conn_plan plan k).host) refl same
  event_still (Deliver k) same = deliver_still k (slice_get w.hosts (conn_plan plan k).host) refl same
  event_still (Tick h t) same = tick_still h t (slice_get w.hosts h) (sym (at_here h (ticked (host_plan plan h) t) w.hosts) ∙ ap (λ (v : World). slice_get v.hosts h) same)
  event_still (Arrive k n) same = nothing_in s plan w (Arrive k n) (conn_plan plan k).host (slice_get w.hosts (conn_plan plan k).host) (λ x. refl)
  event_still (Inject k bytes) same = nothing_in s plan w (Inject k bytes) (conn_plan plan k).host (slice_get w.hosts (conn_plan plan k).host) (λ x. refl)
  event_still (Copy k j from until) same = nothing_in s plan w (resolve plan w (Copy k j from until)) (conn_plan plan k).host (slice_get w.hosts (conn_plan plan k).host) (λ x. refl)

  -- numbers that stay

  by_numbers : (e : Event) → numbers_of e (step s plan w e) ≡ numbers_of e w → IsStill s plan w e
  by_numbers e same = (finds_still s plan w e).0 (ap not ((bytes_eq-Decides _ _).1 same))

  module _ (has : (h : ℕ) (x : Host) → slice_get w.hosts h ≡ Some x → HasObjects (host_plan plan h) x) where
    step_else : (h p : ℕ) (q : Option Host) → slice_get w.hosts h ≡ q → access_in s plan w (Step h p) h q ≡ NoAccess → inside_proc (host_plan plan h) p (proc_in q p) ≡ false
        → option_map (λ y. proc_after_reply (ask (host_plan plan h) p y) (answer_in s plan w (Step h p) q) y) (proc_in q p) ≡ proc_in q p
    step_else h p None is e i = refl
    step_else h p (Some x) is e i = proc_else s (host_plan plan h) x p (slice_get x.procs p) (has h x is) (sym (when_here h _) ∙ e) i

    frame_else : (h l : ℕ) (q : Option Host) → access_in s plan w (Frame h l) h q ≡ NoAccess
        → option_map (λ k. worker_after_reply s (host_plan plan h) l (lane_ask s (lane_plan (host_plan plan h) l) k) (answer_in s plan w (Frame h l) q) k) (worker_at q l) ≡ worker_at q l
    frame_else h l None e = refl
    frame_else h l (Some x) e = worker_else s (host_plan plan h) x l (slice_get x.workers l) (sym (when_here h _) ∙ e)

    accept_else : (k : ℕ) (q : Option Host) → slice_get w.hosts (conn_plan plan k).host ≡ q → access_in s plan w (Accept k) (conn_plan plan k).host q ≡ NoAccess → is_inner s plan w (Accept k) ≡ false → slice_get (step s plan w (Accept k)).conns k ≡ slice_get w.conns k
    accept_else k None is e i = ap (λ o. slice_get (step_conn s plan w (conn_plan plan k).host k (λ conn. accept s (host_plan plan (conn_plan plan k).host) conn (arrived w (conn_plan plan k).source conn)) o (slice_get w.conns k)).conns k) is
    accept_else k (Some x) is e i = (connections_learn s plan w k x is).0 ∙ subst (λ o. option_map (λ y. conn_after_reply (accept s (host_plan plan (conn_plan plan k).host) y (arrived w (conn_plan plan k).source y)) (answer_in s plan w (Accept k) o) y) (slice_get w.conns k) ≡ slice_get w.conns k) (sym is)
        (end_else s (host_plan plan (conn_plan plan k).host) x (λ conn. accept s (host_plan plan (conn_plan plan k).host) conn (arrived w (conn_plan plan k).source conn))
        (λ y. accept_facts s (host_plan plan (conn_plan plan k).host) y (arrived w (conn_plan plan k).source y)) (slice_get w.conns k) (has (conn_plan plan k).host x is) (sym (when_here (conn_plan plan k).host _) ∙ e) i)

    deliver_else : (k : ℕ) (q : Option Host) → slice_get w.hosts (conn_plan plan k).host ≡ q → access_in s plan w (Deliver k) (conn_plan plan k).host q ≡ NoAccess → is_inner s plan w (Deliver k) ≡ false → slice_get (step s plan w (Deliver k)).conns k ≡ slice_get w.conns k
    deliver_else k None is e i = ap (λ o. slice_get (step_conn s plan w (conn_plan plan k).host k (λ conn. deliver s (host_plan plan (conn_plan plan k).host) conn (arrived w (conn_plan plan k).source conn)) o (slice_get w.conns k)).conns k) is
    deliver_else k (Some x) is e i = (connections_learn s plan w k x is).1 ∙ subst (λ o. option_map (λ y. conn_after_reply (deliver s (host_plan plan (conn_plan plan k).host) y (arrived w (conn_plan plan k).source y)) (answer_in s plan w (Deliver k) o) y) (slice_get w.conns k) ≡ slice_get w.conns k) (sym is)
        (end_else s (host_plan plan (conn_plan plan k).host) x (λ conn. deliver s (host_plan plan (conn_plan plan k).host) conn (arrived w (conn_plan plan k).source conn))
        (λ y. deliver_facts s (host_plan plan (conn_plan plan k).host) y (arrived w (conn_plan plan k).source y)) (slice_get w.conns k) (has (conn_plan plan k).host x is) (sym (when_here (conn_plan plan k).host _) ∙ e) i)

    tick_else : (h t : ℕ) (q : Option Host) → access_in s plan w (Tick h t) h q ≡ NoAccess → desk_numbers (option_map (λ x. x.desk) (option_map (ticked (host_plan plan h) t) q)) ≡ desk_numbers (option_map (λ x. x.desk) q)
    tick_else h t None e = refl
    tick_else h t (Some x) e = ap (λ n. n ∷ []) (clock_else (host_plan plan h) x t (sym (when_here h _) ∙ e))

    event_else : (e : Event) → access s plan w e (host_of plan e) ≡ NoAccess → is_inner s plan w e ≡ false → numbers_of e (step s plan w e) ≡ numbers_of e w
    event_else (Step h p) e i = ap proc_numbers (processes_learn s plan w h p ∙ step_else h p (slice_get w.hosts h) refl e i)
    event_else (Frame h l) e i = ap worker_numbers (workers_learn s plan w h l ∙ frame_else h l (slice_get w.hosts h) e)
    event_else (Accept k) e i = ap conn_numbers (accept_else k (slice_get w.hosts (conn_plan plan k).host) refl e i)
    event_else (Deliver k) e i = ap conn_numbers (deliver_else k (slice_get w.hosts (conn_plan plan k).host) refl e i)
    event_else (Tick h t) e i = ap (λ q. desk_numbers (option_map (λ x. x.desk) q)) (at_here h (ticked (host_plan plan h) t) w.hosts) ∙ tick_else h t (slice_get w.hosts h) e
    event_else (Arrive k n) e i = absurd (grind arith)
    event_else (Inject k bytes) e i = absurd (grind arith)
    event_else (Copy k j from until) e i = absurd (grind arith)

pub still_touches_nothing : StillTouchesNothing
still_touches_nothing s plan w e same = ap (touch_of (host_of plan e)) (event_still s plan w e same)

pub else_is_still : ElseIsStill
else_is_still s plan w e has none i = by_numbers s plan w e (event_else s plan w has e (untouched (host_of plan e) (access s plan w e (host_of plan e)) none) i)
