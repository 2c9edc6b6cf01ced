-- The numbers of an event's actor tell whether the event changed anything.
use Rattle.std.proofs.Common.{◌≡◌, ℕ, suc, ◌+◌, Bool, true, false, cond, List, [], ◌∷◌, ◌++◌, Option, Some, None, length, slice_get, option_map, take, min, refl, sym, ◌∙◌, ap, subst, arith, append-nil, length-take}
use Rattle.std.specs.Prelude.{not, bytes_eq, max, nat_lt}
use Rattle.std.proofs.lemmas.Slice.Eq.{bytes_eq-Decides}
use Rattle.ds_label.specs.declared.category.Category.{Category}
use Rattle.ds_label.specs.declared.rule.Rule.{Rule}
use Rattle.ds_label.specs.declared.rule.Rule.TheVariants.{TooLong}
use Rattle.ds_label.specs.Flow.{with_member, union}
use Rattle.ds_label.specs.Names.{by_name}
use Rattle.ds_cert.specs.declared.lane.LaneCert.{LaneCert}
use Rattle.ds_cert.specs.declared.cert.Cert.{Cert}
use Rattle.ds_script.specs.declared.op.Op.{Op}
use Rattle.ds_script.specs.declared.op.Op.TheVariants as ops
use Rattle.ds_script.specs.declared.note.Note.TheVariants as notes
use Rattle.ds_script.specs.Inner.{Course, loaded, joined, inner_op, inner}
use Rattle.ds_script.specs.Inner as courses
use Rattle.ds_script.specs.Replay.{onward}
use Rattle.ds_msg.specs.declared.message.Message.{Message}
use Rattle.ds_model.specs.Lists.{at}
use Rattle.ds_model.specs.Keys.{same_key}
use Rattle.ds_model.specs.ProcessRules.{can_grant}
use Rattle.ds_model.specs.Scheme.{Scheme, Item, Hello, Framed, Failure}
use Rattle.ds_model.specs.Plan.{HostPlan, LanePlan, Plan, Source, Link, OfLane, host_plan, conn_plan, lane_plan}
use Rattle.ds_model.specs.Mailbox.{took, took_with}
use Rattle.ds_model.specs.Lane.{front, lifted, frame_limit}
use Rattle.ds_model.specs.Desk.{Desk, Delegated, Imported, Mapped, Ticked, desk_after, Act, Delegating, Importing, Mapping, import_entry, entry_unless, act_entry, reply_of}
use Rattle.ds_model.specs.World.{Process, Mail, Waiting, Queue, Worker, Passed, Conn, Host, World}
use Rattle.ds_model.specs.ProcessStep.{noted, with_name, granted, Ask, Waits, Internal, Put, Admit, TakeFrom, PublicAct, AsksJudgement, box_of, Target, Not, Into, judge_box, send_rule, send_here, send_away, message_of, take_rule, take_from, relabel, make, publish, ask_outer, ask_inner, lane_of, queue_at, ask_hand, ask, taken_after_reply, act_course, act_after_reply, judged_after_reply}
use Rattle.ds_model.specs.WorkerStep.{LaneAsk, WorkerWaits, Lifts, AsksRecheck, lane_ask_hand, lane_ask, rechecked, still_good, with_frame, lifted_after_reply, checked_after_reply}
use Rattle.ds_model.specs.ConnectionStep.{ConnAsk, ConnWaits, ConnInternal, AsksInlet, AsksArrival, PutsPassed, arrive, peer, inlet_of, fresh_frame, stale_frame, take_frame, frame_from, fail, accept_item, accept_free, accept, put_passed, deliver_to, deliver_from, deliver, judge_delivery, delivery_after_reply}
use Rattle.ds_model.specs.Step.{Event, Step, Frame, Arrive, Accept, Deliver, Tick, Inject, Copy, oldest_in, judged, attached, perform, step_proc, front_of, worker_at, perform_lane, step_lane, fresh_in, perform_conn, stream_of, arrived, injected, with_ends, step_conn, ticked, on_host, on_conn, step}
use Rattle.ds_model.specs.Views.{proc_in}
use Rattle.ds_model.specs.Schedule.{how_many, proc_numbers, worker_numbers, conn_numbers, desk_numbers, numbers_of, changes, FindsStill, SomeSchedule}
use Rattle.ds_model.proofs.Places.{at_here, at_still, cond_case, none_some, some_is}

-- numbers that are told apart

heads : (a b : ℕ) (xs ys : List ℕ) → a ∷ xs ≡ b ∷ ys → a ≡ b
heads a b xs ys e = cc

tails : (a b : ℕ) (xs ys : List ℕ) → a ∷ xs ≡ b ∷ ys → xs ≡ ys
tails a b xs ys e = cc

forward : (n : ℕ) → n + 1 ≡ n → ⊥
forward n e = omega (arith, e)

further : (n : ℕ) → suc n ≡ n → ⊥
further n e = omega (arith, e)

-- what stands at a place that was changed
changed : {X : Type 0} (i : ℕ) (f : X → X) (xs : List X) (x : X) → slice_get xs i ≡ Some x → slice_get (at i f xs) i ≡ Some (f x)
changed i f xs x e = at_here i f xs ∙ ap (option_map f) e

-- A PROCESS

-- it moved: its numbers differ
abbrev Moved : Process → Process → Type 0
Moved y next = proc_numbers (Some next) ≡ proc_numbers (Some y) → ⊥

-- a step to the next place
on_moves : (y next : Process) → next.course.place ≡ y.course.place + 1 → Moved y next
on_moves y next on e = forward y.course.place (sym on ∙ heads next.course.place y.course.place _ _ e)

abbrev AskFacts : Process → Ask → Type 0
AskFacts y Waits = Unit {0}
AskFacts y (Internal next) = proc_numbers (Some next) ≡ proc_numbers (Some y) → next ≡ y
AskFacts y (Put b m next) = Moved y next
AskFacts y (Admit l m next) = Moved y next
AskFacts y (TakeFrom b reg slot) = Unit {0}
AskFacts y (PublicAct act reg host) = Unit {0}
AskFacts y (AsksJudgement m) = y.hand ≡ None

by_place : (c : Course) (n : ℕ) → n ≡ c.place → record c { place = n } ≡ c
by_place c n e = λ i. record c { place = e i }

-- a step inside a process that stays at its place changes nothing
inner_stays : (op : Op) (c course : Course) → inner_op op c ≡ Some course → course.place ≡ c.place → course ≡ c
inner_stays (ops.Set reg text) c course e p = absurd (forward c.place (ap (λ (u : Course). u.place) (some_is (loaded reg text c) course e) ∙ p))
inner_stays (ops.Join reg left right) c course e p = absurd (forward c.place (sym (place (nat_lt courses.register_limit (length bytes))) ∙ (ap (λ (u : Course). u.place) (some_is (joined reg bytes c) course e) ∙ p)))
  where
    bytes : List ℕ
    bytes = courses.register left c ++ courses.register right c

    place : (b : Bool) → (cond b (courses.noted (notes.Refused TooLong) c) (loaded reg bytes c)).place ≡ c.place + 1
    place true = refl
    place false = refl
inner_stays (ops.IfEq left right to) c course e p = go (bytes_eq (courses.register left c) (courses.register right c)) (some_is (cond (bytes_eq (courses.register left c) (courses.register right c)) (record c { place = to }) (record c { place = c.place + 1 })) course e)
  where
    go : (b : Bool) → cond b (record c { place = to }) (record c { place = c.place + 1 }) ≡ course → course ≡ c
    go true q = sym q ∙ by_place c to (ap (λ (u : Course). u.place) q ∙ p)
    go false q = absurd (forward c.place (ap (λ (u : Course). u.place) q ∙ p))
inner_stays (ops.Jump to) c course e p = sym (some_is (record c { place = to }) course e) ∙ by_place c to (ap (λ (u : Course). u.place) (some_is (record c { place = to }) course e) ∙ p)
inner_stays (ops.Print reg) c course e p = absurd (forward c.place (ap (λ (u : Course). u.place) (some_is _ course e) ∙ p))
inner_stays (ops.Send host slot reg label own clear) c course e p = absurd (none_some course e)
inner_stays (ops.Take reg slot) c course e p = absurd (none_some course e)
inner_stays (ops.SetLabel label) c course e p = absurd (none_some course e)
inner_stays (ops.NewCat kind) c course e p = absurd (none_some course e)
inner_stays (ops.Delegate reg cat host from until) c course e p = absurd (none_some course e)
inner_stays (ops.Map cat) c course e p = absurd (none_some course e)
inner_stays (ops.Import reg) c course e p = absurd (none_some course e)

onward_stays : (o : Option Op) (c course : Course) → onward o (λ op. inner_op op c) ≡ Some course → course.place ≡ c.place → course ≡ c
onward_stays None c course e p = absurd (none_some course e)
onward_stays (Some op) c course e p = inner_stays op c course e p

send_here_facts : (plan : HostPlan) (y : Process) (m : Message) (r : Option Rule) (t : Target) → AskFacts y (send_here plan y m r t)
send_here_facts plan y m (Some rule) t = λ e. absurd (on_moves y (noted (notes.Refused rule) y) refl e)
send_here_facts plan y m None (Not rule) = λ e. absurd (on_moves y (noted (notes.Refused rule) y) refl e)
send_here_facts plan y m None (Into b) = on_moves y (noted notes.Sent y) refl

send_away_facts : (y : Process) (m : Message) (r : Option Rule) → y.hand ≡ None → AskFacts y (send_away y m r)
send_away_facts y m (Some rule) h = λ e. absurd (on_moves y (noted (notes.Refused rule) y) refl e)
send_away_facts y m None h = h

take_facts : (y : Process) (reg slot : ℕ) (o : Option ℕ) (r : Option Rule) → AskFacts y (take_from y reg slot o r)
take_facts y reg slot o (Some rule) = λ e. absurd (on_moves y (noted (notes.Refused rule) y) refl e)
take_facts y reg slot None None = tt
take_facts y reg slot (Some b) None = tt

relabel_facts : (y : Process) (label : List Category) (r : Option Rule) → AskFacts y (relabel y label r)
relabel_facts y label (Some rule) = λ e. absurd (on_moves y (noted (notes.Refused rule) y) refl e)
relabel_facts y label None = λ e. absurd (on_moves y (noted (notes.SetLabel label) (record y { label = label })) refl e)

make_facts : (y : Process) (c : Category) (r : Option Rule) → AskFacts y (make y c r)
make_facts y c (Some rule) = λ e. absurd (on_moves y (noted (notes.Refused rule) y) refl e)
make_facts y c None = λ e. absurd (on_moves y (noted (notes.NewCat c) (record y { own = with_member by_name c y.own; names = with_name c y.names; made = suc y.made })) refl e)

publish_facts : (y : Process) (act : Act) (reg host : ℕ) (r : Option Rule) → AskFacts y (publish y act reg host r)
publish_facts y act reg host (Some rule) = λ e. absurd (on_moves y (noted (notes.Refused rule) y) refl e)
publish_facts y act reg host None = tt

outer_facts : (plan : HostPlan) (p : ℕ) (y : Process) (o : Option Op) → y.hand ≡ None → AskFacts y (ask_outer plan p y o)
outer_facts plan p y None h = tt
outer_facts plan p y (Some (ops.Set reg text)) h = tt
outer_facts plan p y (Some (ops.Join reg left right)) h = tt
outer_facts plan p y (Some (ops.IfEq left right to)) h = tt
outer_facts plan p y (Some (ops.Jump to)) h = tt
outer_facts plan p y (Some (ops.Print reg)) h = tt
outer_facts plan p y (Some (ops.Send host slot reg label own clear)) h =
    let m : Message = message_of plan y host slot reg label own clear in
    cond_case (AskFacts y) (same_key m.to plan.key) (send_here plan y m (send_rule plan y m) (judge_box plan m.slot m.label)) (send_away y m (send_rule plan y m))
    (λ e. send_here_facts plan y m (send_rule plan y m) (judge_box plan m.slot m.label))
    (λ e. send_away_facts y m (send_rule plan y m) h)
outer_facts plan p y (Some (ops.Take reg slot)) h = take_facts y reg slot (box_of plan slot) (take_rule plan p y (box_of plan slot))
outer_facts plan p y (Some (ops.SetLabel label)) h = relabel_facts y label _
outer_facts plan p y (Some (ops.NewCat kind)) h = make_facts y _ _
outer_facts plan p y (Some (ops.Delegate reg c host from until)) h = publish_facts y _ reg host _
outer_facts plan p y (Some (ops.Map c)) h = publish_facts y _ 0 0 _
outer_facts plan p y (Some (ops.Import reg)) h = publish_facts y _ 0 0 _

inner_facts : (plan : HostPlan) (p : ℕ) (y : Process) (o : Option Course) → inner y.script y.course ≡ o → y.hand ≡ None → AskFacts y (ask_inner plan p y o)
inner_facts plan p y (Some course) is h = λ e. ap (λ c. record y { course = c }) (onward_stays (slice_get y.script y.course.place) y.course course is (heads course.place y.course.place _ _ e))
inner_facts plan p y None is h = outer_facts plan p y (slice_get y.script y.course.place) h

queue_facts : (y : Process) (m : Message) (o : Option ℕ) → AskFacts y (queue_at y m o)
queue_facts y m None = tt
queue_facts y m (Some l) = on_moves y (noted notes.Sent (record y { hand = None })) refl

hand_facts : (plan : HostPlan) (p : ℕ) (y : Process) (o : Option Message) → y.hand ≡ o → AskFacts y (ask_hand plan p y o)
hand_facts plan p y (Some m) h = queue_facts y m (lane_of plan m.to m.label)
hand_facts plan p y None h = inner_facts plan p y (inner y.script y.course) refl h

ask_facts : (plan : HostPlan) (p : ℕ) (y : Process) → AskFacts y (ask plan p y)
ask_facts plan p y = hand_facts plan p y y.hand refl

-- a grant leaves the course
granted_place : (m : Mail Category) (y : Process) → (granted m y).course.place ≡ y.course.place
granted_place m y = cond_case (λ (z : Process). z.course.place ≡ y.course.place) (can_grant by_name y.own y.clear m.own m.clear) (record y { own = union by_name y.own m.own; clear = union by_name y.clear m.clear }) y (λ _. refl) (λ _. refl)

-- each public act ends, whatever the desk answers

module _ (s : Scheme) (plan : HostPlan) (d : Desk) (reg host : ℕ) (c : Course) where
  delegating_moves : (cat : Category) (to : Rattle.ds_label.specs.declared.category.PubKey.PubKey) (from until : ℕ) (new : Rattle.ds_cert.specs.declared.delegation.Delegation.Delegation) (r : Option Rule) → (act_course reg host (Delegating cat to from until) (reply_of s plan d (entry_unless r (Delegated new))) c).place ≡ c.place + 1
  delegating_moves cat to from until new None = refl
  delegating_moves cat to from until new (Some rule) = refl

  importing_moves : (bytes : List ℕ) (new : Cert) (r : Option Rule) → (act_course reg host (Importing bytes) (reply_of s plan d (entry_unless r (Imported new))) c).place ≡ c.place + 1
  importing_moves bytes new None = refl
  importing_moves bytes new (Some rule) = refl

  reading_moves : (bytes : List ℕ) (o : Option Cert) → (act_course reg host (Importing bytes) (reply_of s plan d (import_entry s d o)) c).place ≡ c.place + 1
  reading_moves bytes None = refl
  reading_moves bytes (Some new) = importing_moves bytes new _

  mapping_moves : (cat : Category) (r : Option Rule) → (act_course reg host (Mapping cat) (reply_of s plan d (entry_unless r (Mapped cat))) c).place ≡ c.place + 1
  mapping_moves cat None = refl
  mapping_moves cat (Some rule) = refl

  act_moves : (act : Act) → (act_course reg host act (reply_of s plan d (act_entry s plan d act)) c).place ≡ c.place + 1
  act_moves (Delegating cat to from until) = delegating_moves cat to from until _ _
  act_moves (Importing bytes) = reading_moves bytes (s.read_cert bytes)
  act_moves (Mapping cat) = mapping_moves cat _

module _ (s : Scheme) (plan : HostPlan) (x : Host) (p : ℕ) (y : Process) (acts : slice_get x.procs p ≡ Some y) where
  -- the numbers of the process after a change
  after_change : (f : Process → Process) → proc_numbers (slice_get (at p f x.procs) p) ≡ proc_numbers (slice_get x.procs p) → proc_numbers (Some (f y)) ≡ proc_numbers (Some y)
  after_change f e = ap proc_numbers (sym (changed p f x.procs y acts)) ∙ (e ∙ ap proc_numbers acts)

  same_procs : (f : Process → Process) → f y ≡ y → at p f x.procs ≡ x.procs
  same_procs f e = at_still p f x.procs (λ z q. subst (λ u. f u ≡ u) (some_is y z (sym acts ∙ q)) e)

  take_still : (b reg slot : ℕ) (o : Option (Mail Category)) → oldest_in (slice_get x.boxes b) ≡ o → proc_numbers (slice_get (at p (taken_after_reply reg slot o) x.procs) p) ≡ proc_numbers (slice_get x.procs p) →
      record x { procs = at p (taken_after_reply reg slot o) x.procs; boxes = at b took x.boxes } ≡ x
  take_still b reg slot None is e = λ i. record x { procs = same_procs (taken_after_reply reg slot None) refl i; boxes = at_still b took x.boxes (λ z q. ap (took_with z) (sym (ap oldest_in q) ∙ is)) i }
  take_still b reg slot (Some m) is e = absurd (on_moves y (taken_after_reply reg slot (Some m) y) (ap (λ n. n + 1) (granted_place m y)) (after_change (taken_after_reply reg slot (Some m)) e))

  judge_still : (m : Message) (certs : List (List ℕ)) (r : Option Rule) → y.hand ≡ None → proc_numbers (slice_get (at p (judged_after_reply m certs r) x.procs) p) ≡ proc_numbers (slice_get x.procs p) → ⊥
  judge_still m certs (Some rule) h e = on_moves y (judged_after_reply m certs (Some rule) y) refl (after_change (judged_after_reply m certs (Some rule)) e)
  judge_still m certs None h e =
      let n : 1 ≡ 0 = heads 1 (how_many y.hand) [] [] (tails y.course.place y.course.place _ _ (after_change (judged_after_reply m certs None) e)) ∙ ap how_many h in omega (arith, n)

  perform_still : (a : Ask) → AskFacts y a → proc_numbers (slice_get (perform s plan x p a).procs p) ≡ proc_numbers (slice_get x.procs p) → perform s plan x p a ≡ x
  perform_still Waits f e = refl
  perform_still (Internal next) f e = ap (λ ps. record x { procs = ps }) (same_procs (λ _. next) (f (after_change (λ _. next) e)))
  perform_still (Put b m next) f e = absurd (f (after_change (λ _. next) e))
  perform_still (Admit l m next) f e = absurd (f (after_change (λ _. next) e))
  perform_still (TakeFrom b reg slot) f e = take_still b reg slot (oldest_in (slice_get x.boxes b)) refl e
  perform_still (PublicAct act reg host) f e = absurd (on_moves y (act_after_reply reg host act (reply_of s plan x.desk (act_entry s plan x.desk act)) y) (act_moves s plan x.desk reg host y.course act)
      (after_change (act_after_reply reg host act (reply_of s plan x.desk (act_entry s plan x.desk act))) e))
  perform_still (AsksJudgement m) f e = absurd (judge_still m (attached s plan x.desk m) (judged s plan x.desk m) f e)

proc_still : (s : Scheme) (plan : HostPlan) (x : Host) (p : ℕ) (o : Option Process) → slice_get x.procs p ≡ o → proc_numbers (slice_get (step_proc s plan x p o).procs p) ≡ proc_numbers (slice_get x.procs p) → step_proc s plan x p o ≡ x
proc_still s plan x p None acts e = refl
proc_still s plan x p (Some y) acts e = perform_still s plan x p y acts (ask plan p y) (ask_facts plan p y) e

-- A LANE'S WORKER

framed_hand : (s : Scheme) (plan : LanePlan) (e : Worker) (good : List Waiting) → (with_frame s plan e good).hand ≡ []
framed_hand s plan e [] = refl
framed_hand s plan e (m ∷ rest) = refl

long_front : (m : Waiting) (q : Queue) → length (front (m ∷ q)) ≡ 0 → ⊥
long_front m q e = let long : length (take (min frame_limit (length (m ∷ q))) (m ∷ q)) ≡ min (min frame_limit (length (m ∷ q))) (length (m ∷ q)) = length-take (min frame_limit (length (m ∷ q))) (m ∷ q) in omega (arith, long, e)

module _ (s : Scheme) (plan : HostPlan) (x : Host) (l : ℕ) (w : Worker) (works : slice_get x.workers l ≡ Some w) where
  worker_change : (f : Worker → Worker) → worker_numbers (slice_get (at l f x.workers) l) ≡ worker_numbers (slice_get x.workers l) → length (f w).hand ≡ length w.hand
  worker_change f e = heads (length (f w).hand) (length w.hand) [] [] (ap worker_numbers (sym (changed l f x.workers w works)) ∙ (e ∙ ap worker_numbers works))

  same_workers : (f : Worker → Worker) → f w ≡ w → at l f x.workers ≡ x.workers
  same_workers f e = at_still l f x.workers (λ z q. subst (λ u. f u ≡ u) (some_is w z (sym works ∙ q)) e)

  empty_lift : w.hand ≡ [] → lifted_after_reply [] w ≡ w
  empty_lift h = λ i. record w { hand = sym h i }

  lift_still : (o : Option Queue) → slice_get x.queues l ≡ o → w.hand ≡ [] → length (front_of o) ≡ 0 → record x { queues = at l lifted x.queues; workers = at l (lifted_after_reply (front_of o)) x.workers } ≡ x
  lift_still None is h e = λ i. record x { queues = at_still l lifted x.queues (λ z q. absurd (none_some z (sym is ∙ q))) i; workers = same_workers (lifted_after_reply []) (empty_lift h) i }
  lift_still (Some []) is h e = λ i. record x { queues = at_still l lifted x.queues (λ z q. subst (λ u. lifted u ≡ u) (some_is [] z (sym is ∙ q)) refl) i; workers = same_workers (lifted_after_reply []) (empty_lift h) i }
  lift_still (Some (m ∷ q)) is h e = absurd (long_front m q e)

  lane_still : (a : LaneAsk) → (a ≡ Lifts → w.hand ≡ []) → ((hand : List Waiting) → a ≡ AsksRecheck hand → w.hand ≡ [] → ⊥) → worker_numbers (slice_get (perform_lane s plan x l a).workers l) ≡ worker_numbers (slice_get x.workers l) → perform_lane s plan x l a ≡ x
  lane_still WorkerWaits f g e = refl
  lane_still Lifts f g e = lift_still (slice_get x.queues l) refl (f refl) (worker_change (lifted_after_reply (front_of (slice_get x.queues l))) e ∙ ap length (f refl))
  lane_still (AsksRecheck hand) f g e = absurd (g hand refl (none w.hand (sym (worker_change (checked_after_reply s (lane_plan plan l) (rechecked s x.desk hand)) e) ∙ ap length (framed_hand s (lane_plan plan l) w (still_good (rechecked s x.desk hand) w.hand)))))
    where
      none : (ms : List Waiting) → length ms ≡ 0 → ms ≡ []
      none [] e = refl
      none (m ∷ ms) e = absurd (omega (arith, e))

asks_lift : (s : Scheme) (plan : LanePlan) (e : Worker) (ms : List Waiting) → e.hand ≡ ms → lane_ask_hand s plan e ms ≡ Lifts → e.hand ≡ []
asks_lift s plan e [] h is = h
asks_lift s plan e (m ∷ ms) h is = absurd (grind arith)

asks_recheck : (s : Scheme) (plan : LanePlan) (e : Worker) (ms hand : List Waiting) → e.hand ≡ ms → lane_ask_hand s plan e ms ≡ AsksRecheck hand → e.hand ≡ [] → ⊥
asks_recheck s plan e [] hand h is none = go (s.has_lane_leaf plan.signing e.leaf) is
  where
    go : (b : Bool) → cond b Lifts WorkerWaits ≡ AsksRecheck hand → ⊥
    go true q = grind arith
    go false q = grind arith
asks_recheck s plan e (m ∷ ms) hand h is none = let no : [] ≡ m ∷ ms = sym none ∙ h in grind arith

worker_still : (s : Scheme) (plan : HostPlan) (x : Host) (l : ℕ) (o : Option Worker) → slice_get x.workers l ≡ o → worker_numbers (slice_get (step_lane s plan x l o).workers l) ≡ worker_numbers (slice_get x.workers l) → step_lane s plan x l o ≡ x
worker_still s plan x l None works e = refl
worker_still s plan x l (Some w) works e = lane_still s plan x l w works (lane_ask s (lane_plan plan l) w) (asks_lift s (lane_plan plan l) w w.hand refl) (λ hand. asks_recheck s (lane_plan plan l) w w.hand hand refl) e

-- A CONNECTION

-- its numbers differ
abbrev ConnMoved : Conn → Conn → Type 0
ConnMoved y next = conn_numbers (Some next) ≡ conn_numbers (Some y) → ⊥

-- the numbers, one by one

link_is : (y z : Conn) → conn_numbers (Some y) ≡ conn_numbers (Some z) → length y.link ≡ length z.link
link_is y z e = heads (length y.link) (length z.link) _ _ e

count_is : (y z : Conn) → conn_numbers (Some y) ≡ conn_numbers (Some z) → y.count ≡ z.count
count_is y z e = heads y.count z.count _ _ (tails (length y.link) (length z.link) _ _ e)

taken_is : (y z : Conn) → conn_numbers (Some y) ≡ conn_numbers (Some z) → y.taken ≡ z.taken
taken_is y z e = heads y.taken z.taken _ _ (tails y.count z.count _ _ (tails (length y.link) (length z.link) _ _ e))

hand_is : (y z : Conn) → conn_numbers (Some y) ≡ conn_numbers (Some z) → length y.hand ≡ length z.hand
hand_is y z e = heads (length y.hand) (length z.hand) _ _ (tails y.taken z.taken _ _ (tails y.count z.count _ _ (tails (length y.link) (length z.link) _ _ e)))

passed_is : (y z : Conn) → conn_numbers (Some y) ≡ conn_numbers (Some z) → how_many y.passed ≡ how_many z.passed
passed_is y z e = heads (how_many y.passed) (how_many z.passed) _ _ (tails (length y.hand) (length z.hand) _ _ (tails y.taken z.taken _ _ (tails y.count z.count _ _ (tails (length y.link) (length z.link) _ _ e))))

failed_is : (y z : Conn) → conn_numbers (Some y) ≡ conn_numbers (Some z) → how_many y.failed ≡ how_many z.failed
failed_is y z e = heads (how_many y.failed) (how_many z.failed) _ _ (tails (how_many y.passed) (how_many z.passed) _ _ (tails (length y.hand) (length z.hand) _ _ (tails y.taken z.taken _ _ (tails y.count z.count _ _ (tails (length y.link) (length z.link) _ _ e)))))

one_zero : ◌≡◌ {A = ℕ} 1 0 → ⊥
one_zero e = omega (arith, e)

zero_one : ◌≡◌ {A = ℕ} 0 1 → ⊥
zero_one e = omega (arith, e)

abbrev ConnFacts : Conn → ConnAsk → Type 0
ConnFacts y ConnWaits = Unit {0}
ConnFacts y (ConnInternal next) = ConnMoved y next
ConnFacts y (AsksInlet i number fresh stale) = ConnMoved y fresh × ConnMoved y stale
ConnFacts y (AsksArrival lane m rest) = y.hand ≡ m ∷ rest
ConnFacts y (PutsPassed b m next) = ConnMoved y next

fail_facts : (y : Conn) (o : Option Failure) → y.failed ≡ None → ConnFacts y (fail y o)
fail_facts y None f = tt
fail_facts y (Some failure) f = λ e. one_zero (failed_is (record y { failed = Some failure }) y e ∙ ap how_many f)

take_frame_facts : (y : Conn) (number : ℕ) (messages : List Message) (o : Option ℕ) → ConnFacts y (take_frame y number messages o)
take_frame_facts y number messages None = tt
take_frame_facts y number messages (Some i) = (λ e. further y.taken (taken_is (fresh_frame y number messages) y e), λ e. further y.taken (taken_is (stale_frame y number) y e))

from_facts : (plan : HostPlan) (y : Conn) (number : ℕ) (messages : List Message) (o : Option LaneCert) → ConnFacts y (frame_from plan y number messages o)
from_facts plan y number messages None = tt
from_facts plan y number messages (Some lane) = take_frame_facts y number messages (inlet_of plan lane)

module _ (s : Scheme) (plan : HostPlan) (y : Conn) (bytes : List ℕ) where
  item_facts : (o : Option Item) → y.failed ≡ None → ConnFacts y (accept_item s plan y bytes o)
  item_facts None f = fail_facts y (s.ending plan.key plan.inlets bytes) f
  item_facts (Some (Hello lane)) f = λ e. further y.taken (taken_is (record y { taken = suc y.taken }) y e)
  item_facts (Some (Framed number messages)) f = from_facts plan y number messages (peer s plan bytes)

  free_facts : (hand : List Message) (passed : Option Passed) (failed : Option Failure) → y.failed ≡ failed → ConnFacts y (accept_free s plan y bytes hand passed failed)
  free_facts [] None None f = item_facts (slice_get (s.items plan.key plan.inlets bytes) y.taken) f
  free_facts [] None (Some failure) f = tt
  free_facts [] (Some p) failed f = tt
  free_facts (m ∷ hand) passed failed f = tt

  accept_facts : ConnFacts y (accept s plan y bytes)
  accept_facts = cond_case (ConnFacts y) plan.silent ConnWaits (accept_free s plan y bytes y.hand y.passed y.failed) (λ _. tt) (λ _. free_facts y.hand y.passed y.failed refl)

  put_facts : (m : Mail Category) (o : Option ℕ) (p : Passed) → y.passed ≡ Some p → ConnFacts y (put_passed y m o)
  put_facts m None p is = tt
  put_facts m (Some b) p is = λ e. zero_one (passed_is (record y { passed = None }) y e ∙ ap how_many is)

  to_facts : (lane : LaneCert) (hand : List Message) (passed : Option Passed) → y.hand ≡ hand → y.passed ≡ passed → ConnFacts y (deliver_to plan y lane hand passed)
  to_facts lane hand (Some p) h is = put_facts p.mail (box_of plan p.slot) p is
  to_facts lane [] None h is = tt
  to_facts lane (m ∷ rest) None h is = h

  peer_facts : (o : Option LaneCert) → ConnFacts y (deliver_from plan y o)
  peer_facts None = tt
  peer_facts (Some lane) = to_facts lane y.hand y.passed refl refl

  deliver_facts : ConnFacts y (deliver s plan y bytes)
  deliver_facts = cond_case (ConnFacts y) plan.silent ConnWaits (deliver_from plan y (peer s plan bytes)) (λ _. tt) (λ _. peer_facts (peer s plan bytes))

delivered_hand : (lane : LaneCert) (m : Message) (rest : List Message) (r : Option Rule) (y : Conn) → (delivery_after_reply lane m rest r y).hand ≡ rest
delivered_hand lane m rest None y = refl
delivered_hand lane m rest (Some rule) y = refl

fresh_moves : (y fresh stale : Conn) (b : Bool) → ConnMoved y fresh → ConnMoved y stale → ConnMoved y (cond b fresh stale)
fresh_moves y fresh stale true f g = f
fresh_moves y fresh stale false f g = g

module _ (s : Scheme) (plan : Plan) (w : World) where
  -- a change of one host
  host_numbers : {A : Type 0} (h : ℕ) (f : Host → Host) (of : Option Host → A) (x : Host) → slice_get w.hosts h ≡ Some x → of (slice_get (at h f w.hosts) h) ≡ of (slice_get w.hosts h) → of (Some (f x)) ≡ of (Some x)
  host_numbers h f of x there e = ap of (sym (changed h f w.hosts x there)) ∙ (e ∙ ap of there)

  on_host_still : (h : ℕ) (f : Host → Host) → ((x : Host) → slice_get w.hosts h ≡ Some x → f x ≡ x) → on_host h f w ≡ w
  on_host_still h f e = ap (λ hs. record w { hosts = hs }) (at_still h f w.hosts e)

  on_conn_still : (k : ℕ) (f : Conn → Conn) → ((y : Conn) → slice_get w.conns k ≡ Some y → conn_numbers (Some (f y)) ≡ conn_numbers (Some y) → f y ≡ y) → conn_numbers (slice_get (at k f w.conns) k) ≡ conn_numbers (slice_get w.conns k) → on_conn k f w ≡ w
  on_conn_still k f still e = ap (λ cs. record w { conns = cs }) (at_still k f w.conns (λ y there. still y there (ap conn_numbers (sym (changed k f w.conns y there)) ∙ (e ∙ ap conn_numbers there))))

  ends_still : (r k : ℕ) (x : Host) (y : Conn) (a : ConnAsk) → slice_get w.hosts r ≡ Some x → slice_get w.conns k ≡ Some y → ConnFacts y a → conn_numbers (Some (perform_conn s (host_plan plan r) x y a).conn) ≡ conn_numbers (Some y) → with_ends w r k (perform_conn s (host_plan plan r) x y a) ≡ w
  ends_still r k x y ConnWaits there here f e = λ i. record w { hosts = at_still r (λ _. x) w.hosts (λ z q. some_is x z (sym there ∙ q)) i; conns = at_still k (λ _. y) w.conns (λ z q. some_is y z (sym here ∙ q)) i }
  ends_still r k x y (ConnInternal next) there here f e = absurd (f e)
  ends_still r k x y (AsksInlet i number fresh stale) there here f e = absurd (fresh_moves y fresh stale (fresh_in number (slice_get x.inlets i)) f.0 f.1 e)
  ends_still r k x y (AsksArrival lane m rest) there here f e =
      let told : Conn = delivery_after_reply lane m rest (judge_delivery s (host_plan plan r) x.desk lane m) y in
      absurd (further (length rest) (sym (ap length (sym (delivered_hand lane m rest (judge_delivery s (host_plan plan r) x.desk lane m) y)) ∙ (hand_is told y e ∙ ap length f))))
  ends_still r k x y (PutsPassed b m next) there here f e = absurd (f e)

  conn_still : (r k : ℕ) (asks : Conn → ConnAsk) (o : Option Host) (q : Option Conn) → slice_get w.hosts r ≡ o → slice_get w.conns k ≡ q → ((y : Conn) → ConnFacts y (asks y)) → conn_numbers (slice_get (step_conn s plan w r k asks o q).conns k) ≡ conn_numbers (slice_get w.conns k) → step_conn s plan w r k asks o q ≡ w
  conn_still r k asks None q there here f e = refl
  conn_still r k asks (Some x) None there here f e = refl
  conn_still r k asks (Some x) (Some y) there here f e = ends_still r k x y (asks y) there here (f y)
      (ap conn_numbers (sym (changed k (λ _. (perform_conn s (host_plan plan r) x y (asks y)).conn) w.conns y here)) ∙ (e ∙ ap conn_numbers here))

  inject_still : (source : Source) (bytes : List ℕ) (y : Conn) → conn_numbers (Some (injected source bytes y)) ≡ conn_numbers (Some y) → injected source bytes y ≡ y
  inject_still (OfLane h l) bytes y e = refl
  inject_still Link bytes y e = ap (λ b. record y { link = y.link ++ b }) (none bytes (long y.link bytes (link_is (record y { link = y.link ++ bytes }) y e))) ∙ ap (λ b. record y { link = b }) (append-nil y.link)
    where
      long : (xs ys : List ℕ) → length (xs ++ ys) ≡ length xs → length ys ≡ 0
      long [] ys e = e
      long (x ∷ xs) ys e = long xs ys (omega (arith, e))

      none : (ys : List ℕ) → length ys ≡ 0 → ys ≡ []
      none [] e = refl
      none (y ∷ ys) e = absurd (omega (arith, e))

  tick_still : (hp : HostPlan) (t : ℕ) (x : Host) → desk_numbers (Some (ticked hp t x).desk) ≡ desk_numbers (Some x.desk) → ticked hp t x ≡ x
  tick_still hp t x = go hp.silent
    where
      go : (b : Bool) → desk_numbers (Some (cond b x (record x { desk = desk_after hp.key (Ticked t) x.desk })).desk) ≡ desk_numbers (Some x.desk) → cond b x (record x { desk = desk_after hp.key (Ticked t) x.desk }) ≡ x
      go true e = refl
      go false e = ap (λ n. record x { desk = record x.desk { moment = n } }) (heads (max x.desk.moment t) x.desk.moment [] [] e)

  by_numbers : (e : Event) → numbers_of e (step s plan w e) ≡ numbers_of e w → step s plan w e ≡ w
  by_numbers (Step h p) e = on_host_still h (λ x. step_proc s (host_plan plan h) x p (slice_get x.procs p))
      (λ x there. proc_still s (host_plan plan h) x p (slice_get x.procs p) refl (host_numbers h (λ x. step_proc s (host_plan plan h) x p (slice_get x.procs p)) (λ o. proc_numbers (proc_in o p)) x there e))
  by_numbers (Frame h l) e = on_host_still h (λ x. step_lane s (host_plan plan h) x l (slice_get x.workers l))
      (λ x there. worker_still s (host_plan plan h) x l (slice_get x.workers l) refl (host_numbers h (λ x. step_lane s (host_plan plan h) x l (slice_get x.workers l)) (λ o. worker_numbers (worker_at o l)) x there e))
  by_numbers (Arrive k n) e = on_conn_still k (λ conn. arrive (stream_of w (conn_plan plan k).source conn) n conn)
      (λ y there q. λ i. record y { count = count_is (arrive (stream_of w (conn_plan plan k).source y) n y) y q i }) e
  by_numbers (Accept k) e = conn_still (conn_plan plan k).host k (λ conn. accept s (host_plan plan (conn_plan plan k).host) conn (arrived w (conn_plan plan k).source conn)) (slice_get w.hosts (conn_plan plan k).host) (slice_get w.conns k) refl refl
      (λ y. accept_facts s (host_plan plan (conn_plan plan k).host) y (arrived w (conn_plan plan k).source y)) e
  by_numbers (Deliver k) e = conn_still (conn_plan plan k).host k (λ conn. deliver s (host_plan plan (conn_plan plan k).host) conn (arrived w (conn_plan plan k).source conn)) (slice_get w.hosts (conn_plan plan k).host) (slice_get w.conns k) refl refl
      (λ y. deliver_facts s (host_plan plan (conn_plan plan k).host) y (arrived w (conn_plan plan k).source y)) e
  by_numbers (Tick h t) e = on_host_still h (ticked (host_plan plan h) t)
      (λ x there. tick_still (host_plan plan h) t x (host_numbers h (ticked (host_plan plan h) t) (λ o. desk_numbers (option_map (λ u. u.desk) o)) x there e))
  by_numbers (Inject k bytes) e = on_conn_still k (injected (conn_plan plan k).source bytes) (λ y there q. inject_still (conn_plan plan k).source bytes y q) e
  by_numbers (Copy k j from until) e = on_conn_still k (injected (conn_plan plan k).source _) (λ y there q. inject_still (conn_plan plan k).source _ y q) e

not_true : (b : Bool) → not b ≡ false → b ≡ true
not_true true e = refl
not_true false e = absurd (grind arith)

true_not : (b : Bool) → b ≡ true → not b ≡ false
true_not true e = refl
true_not false e = absurd (grind arith)

pub finds_still : FindsStill
finds_still s plan w e = (
  λ same. by_numbers s plan w e ((bytes_eq-Decides _ _).0 (not_true _ same)),
  λ still. true_not _ ((bytes_eq-Decides _ _).1 (ap (numbers_of e) still)),
)

pub some_schedule : SomeSchedule
some_schedule s plan budget w = record { changes = changes s plan; decides = finds_still s plan; made = refl }
