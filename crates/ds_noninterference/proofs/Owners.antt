-- Only an owner of the category releases.
use Rattle.std.proofs.Common.{◌≡◌, ℕ, Bool, true, false, cond, List, [], ◌∷◌, ◌||◌, Option, Some, None, slice_get, option_map, refl, sym, ◌∙◌, ap, subst, ◌⊎◌, inl, inr, arith}
use Rattle.ds_label.specs.declared.category.Category.{Category}
use Rattle.ds_label.specs.declared.rule.Rule.{Rule}
use Rattle.ds_label.specs.declared.rule.Rule.TheVariants.{NotPublic}
use Rattle.ds_label.specs.Flow.{has, union}
use Rattle.ds_label.specs.Names.{is_secrecy, by_name}
use Rattle.ds_script.specs.declared.op.Op.{Op}
use Rattle.ds_script.specs.declared.op.Op.TheVariants as ops
use Rattle.ds_script.specs.Inner.{Course, inner}
use Rattle.ds_msg.specs.declared.message.Message.{Message}
use Rattle.ds_model.specs.Keys.{same_key}
use Rattle.ds_model.specs.ProcessRules.{can_grant}
use Rattle.ds_model.specs.Scheme.{Scheme}
use Rattle.ds_model.specs.Plan.{HostPlan, Plan, host_plan, conn_plan}
use Rattle.ds_model.specs.Desk.{Act, act_entry, reply_of, Ticked, desk_after}
use Rattle.ds_model.specs.World.{Process, Mail, Conn, Host, World}
use Rattle.ds_model.specs.ProcessStep.{Ask, Waits, Internal, Put, Admit, TakeFrom, PublicAct, AsksJudgement, box_of, Target, Not, Into, judge_box, send_rule, send_here, send_away, message_of, take_rule, take_from, relabel, make, publish, publish_rule, ask_outer, ask_inner, lane_of, queue_at, ask_hand, ask, taken_after_reply, act_after_reply, judged_after_reply}
use Rattle.ds_model.specs.WorkerStep.{LaneAsk, WorkerWaits, Lifts, AsksRecheck, lane_ask}
use Rattle.ds_model.specs.ConnectionStep.{ConnAsk, ConnWaits, ConnInternal, AsksInlet, AsksArrival, PutsPassed, accept, deliver}
use Rattle.ds_model.specs.Step.{Event, Step, Frame, Arrive, Accept, Deliver, Tick, Inject, Copy, arrived, oldest_in, judged, attached, perform, step_proc, perform_lane, step_lane, perform_conn, step_conn, ticked, on_host, resolve, happens, step, run}
use Rattle.ds_model.specs.Views.{proc_in, proc_at}
use Rattle.ds_noninterference.specs.High.{is_in, high_proc, high_lane, high_conn}
use Rattle.ds_noninterference.specs.Observations.{Released, Release, Low, unless_has, ToBox, ToLane, released, mark_released, mark_proc, high_or, mark_of}
use Rattle.ds_noninterference.specs.Owners.{OnlyOwnersRelease, OnlyOwnersAct}
use Rattle.ds_model.proofs.Places.{at_here, cond_case, some_is, none_some}
use Rattle.ds_noninterference.proofs.Flow.{and_right, or_cases, flows_carries}
use Rattle.ds_noninterference.proofs.Asks.{first_none, unless_none}
use Rattle.ds_noninterference.proofs.Kept.{all_at, each_none}

module _ (c : Category) (secret : is_secrecy c.kind ≡ true) where
  -- the process lets a message with this label out: it has the category, or the process owns it
  abbrev Lets : Process → List Category → Type 0
  Lets x label = has by_name c x.label ≡ true → (has by_name c label || has by_name c x.own) ≡ true

  abbrev OwnFacts : Process → Ask → Type 0
  OwnFacts x Waits = Unit {0}
  OwnFacts x (Internal next) = next.hand ≡ None
  OwnFacts x (Put b m next) = (next.hand ≡ None) × Lets x m.label
  OwnFacts x (Admit l m next) = (x.hand ≡ Some m) × (next.hand ≡ None)
  OwnFacts x (TakeFrom b reg slot) = x.hand ≡ None
  OwnFacts x (PublicAct act reg host) = (x.hand ≡ None) × (has by_name c x.label ≡ true → has by_name c x.own ≡ true)
  OwnFacts x (AsksJudgement m) = (x.hand ≡ None) × Lets x m.label

  sent_lets : (plan : HostPlan) (x : Process) (m : Message) → send_rule plan x m ≡ None → Lets x m.label
  sent_lets plan x m e = flows_carries c x.label m.label x.own secret (unless_none _ _ (first_none _ _ (first_none _ _ (first_none _ _ e).1).0).0)

  here_facts : (plan : HostPlan) (x : Process) (m : Message) (r : Option Rule) (t : Target) → x.hand ≡ None → send_rule plan x m ≡ r → OwnFacts x (send_here plan x m r t)
  here_facts plan x m (Some r) t h e = h
  here_facts plan x m None (Not r) h e = h
  here_facts plan x m None (Into b) h e = (h, sent_lets plan x m e)

  away_facts : (plan : HostPlan) (x : Process) (m : Message) (r : Option Rule) → x.hand ≡ None → send_rule plan x m ≡ r → OwnFacts x (send_away x m r)
  away_facts plan x m (Some r) h e = h
  away_facts plan x m None h e = (h, sent_lets plan x m e)

  taking_facts : (x : Process) (reg slot : ℕ) (o : Option ℕ) (r : Option Rule) → x.hand ≡ None → OwnFacts x (take_from x reg slot o r)
  taking_facts x reg slot o (Some r) h = h
  taking_facts x reg slot None None h = tt
  taking_facts x reg slot (Some b) None h = h

  label_facts : (x : Process) (label : List Category) (r : Option Rule) → x.hand ≡ None → OwnFacts x (relabel x label r)
  label_facts x label (Some r) h = h
  label_facts x label None h = h

  new_facts : (x : Process) (d : Category) (r : Option Rule) → x.hand ≡ None → OwnFacts x (make x d r)
  new_facts x d (Some r) h = h
  new_facts x d None h = h

  public_owns : (x : Process) → publish_rule x ≡ None → has by_name c x.label ≡ true → has by_name c x.own ≡ true
  public_owns x e l = each_none (λ d. has by_name d x.own) (λ d. NotPublic) c x.label secret e l

  act_facts : (x : Process) (act : Act) (reg host : ℕ) (r : Option Rule) → x.hand ≡ None → (r ≡ None → publish_rule x ≡ None) → OwnFacts x (publish x act reg host r)
  act_facts x act reg host (Some r) h e = h
  act_facts x act reg host None h e = (h, public_owns x (e refl))

  outer_facts : (plan : HostPlan) (p : ℕ) (x : Process) (o : Option Op) → x.hand ≡ None → OwnFacts x (ask_outer plan p x o)
  outer_facts plan p x None h = tt
  outer_facts plan p x (Some (ops.Set reg text)) h = tt
  outer_facts plan p x (Some (ops.Join reg left right)) h = tt
  outer_facts plan p x (Some (ops.IfEq left right to)) h = tt
  outer_facts plan p x (Some (ops.Jump to)) h = tt
  outer_facts plan p x (Some (ops.Print reg)) h = tt
  outer_facts plan p x (Some (ops.Send host slot reg label own clear)) h =
      let m : Message = message_of plan x host slot reg label own clear in
      cond_case (OwnFacts x) (same_key m.to plan.key) (send_here plan x m (send_rule plan x m) (judge_box plan m.slot m.label)) (send_away x m (send_rule plan x m))
      (λ e. here_facts plan x m (send_rule plan x m) (judge_box plan m.slot m.label) h refl)
      (λ e. away_facts plan x m (send_rule plan x m) h refl)
  outer_facts plan p x (Some (ops.Take reg slot)) h = taking_facts x reg slot (box_of plan slot) (take_rule plan p x (box_of plan slot)) h
  outer_facts plan p x (Some (ops.SetLabel label)) h = label_facts x label _ h
  outer_facts plan p x (Some (ops.NewCat kind)) h = new_facts x _ _ h
  outer_facts plan p x (Some (ops.Delegate reg d host from until)) h = act_facts x _ reg host _ h (λ e. (first_none _ _ (first_none _ _ (first_none _ _ e).1).1).0)
  outer_facts plan p x (Some (ops.Map d)) h = act_facts x _ 0 0 _ h (λ e. e)
  outer_facts plan p x (Some (ops.Import reg)) h = act_facts x _ 0 0 _ h (λ e. e)

  inner_facts : (plan : HostPlan) (p : ℕ) (x : Process) (o : Option Course) → x.hand ≡ None → OwnFacts x (ask_inner plan p x o)
  inner_facts plan p x (Some course) h = h
  inner_facts plan p x None h = outer_facts plan p x (slice_get x.script x.course.place) h

  queue_facts : (x : Process) (m : Message) (o : Option ℕ) → x.hand ≡ Some m → OwnFacts x (queue_at x m o)
  queue_facts x m None h = tt
  queue_facts x m (Some l) h = (h, refl)

  hand_facts : (plan : HostPlan) (p : ℕ) (x : Process) (o : Option Message) → x.hand ≡ o → OwnFacts x (ask_hand plan p x o)
  hand_facts plan p x (Some m) h = queue_facts x m (lane_of plan m.to m.label) h
  hand_facts plan p x None h = inner_facts plan p x (inner x.script x.course) h

  own_facts : (plan : HostPlan) (p : ℕ) (x : Process) → OwnFacts x (ask plan p x)
  own_facts plan p x = hand_facts plan p x x.hand refl

  -- KEPT: a high process that has a message without the category in hand owns the category

  abbrev Owned : Process → Type 0
  Owned y = (m : Message) → y.hand ≡ Some m → has by_name c m.label ≡ false → (has by_name c y.label || has by_name c y.own) ≡ true → has by_name c y.own ≡ true

  abbrev OwnedHost : Host → Type 0
  OwnedHost x = (p : ℕ) (y : Process) → slice_get x.procs p ≡ Some y → Owned y

  abbrev OwnedWorld : World → Type 0
  OwnedWorld w = (h : ℕ) (x : Host) → slice_get w.hosts h ≡ Some x → OwnedHost x

  empty_owned : (y : Process) → y.hand ≡ None → Owned y
  empty_owned y e m q = absurd (none_some m (sym e ∙ q))

  lets_own : (x : Process) (label : List Category) → Lets x label → has by_name c label ≡ false → (has by_name c x.label || has by_name c x.own) ≡ true → has by_name c x.own ≡ true
  lets_own x label lets without high = go (or_cases _ _ high)
    where
      by_flow : (a : Bool) → a ≡ false → (a || has by_name c x.own) ≡ true → has by_name c x.own ≡ true
      by_flow false e f = f
      by_flow true e f = absurd (grind arith)

      go : (has by_name c x.label ≡ true) ⊎ (has by_name c x.own ≡ true) → has by_name c x.own ≡ true
      go (inl l) = by_flow (has by_name c label) without (lets l)
      go (inr o) = o

  taken_hand : (r slot : ℕ) (o : Option (Mail Category)) (z : Process) → (taken_after_reply r slot o z).hand ≡ z.hand
  taken_hand r slot None z = refl
  taken_hand r slot (Some m) z = cond_case (λ z'. z'.hand ≡ z.hand) (can_grant by_name z.own z.clear m.own m.clear) (record z { own = union by_name z.own m.own; clear = union by_name z.clear m.clear }) z (λ _. refl) (λ _. refl)

  judged_owned : (m : Message) (certs : List (List ℕ)) (o : Option Rule) (z : Process) → z.hand ≡ None → Lets z m.label → Owned (judged_after_reply m certs o z)
  judged_owned m certs (Some rule) z h lets = empty_owned (judged_after_reply m certs (Some rule) z) h
  judged_owned m certs None z h lets = λ m' q without high.
      let same : record m { certs = certs } ≡ m' = some_is (record m { certs = certs }) m' q in
      lets_own z m.label lets (subst (λ n. has by_name c n.label ≡ false) (sym same) without) high

  module _ (s : Scheme) (plan : Plan) where
    at_proc : (x : Host) (p : ℕ) (y : Process) (f : Process → Process) → slice_get x.procs p ≡ Some y → OwnedHost x → Owned (f y) → (q : ℕ) (z : Process) → slice_get (Rattle.ds_model.specs.Lists.at p f x.procs) q ≡ Some z → Owned z
    at_proc x p y f e old new = all_at (λ j z. Owned z) p f x.procs (λ j z n i. old j z i) (λ z i. subst (λ u. Owned (f u)) (some_is y z (sym e ∙ i)) new)

    ask_owned : (hp : HostPlan) (x : Host) (p : ℕ) (y : Process) (a : Ask) → slice_get x.procs p ≡ Some y → OwnFacts y a → OwnedHost x → OwnedHost (perform s hp x p a)
    ask_owned hp x p y Waits e f old = old
    ask_owned hp x p y (Internal next) e f old = at_proc x p y (λ _. next) e old (empty_owned next f)
    ask_owned hp x p y (Put b m next) e f old = at_proc x p y (λ _. next) e old (empty_owned next f.0)
    ask_owned hp x p y (Admit l m next) e f old = at_proc x p y (λ _. next) e old (empty_owned next f.1)
    ask_owned hp x p y (TakeFrom b r slot) e f old = at_proc x p y (taken_after_reply r slot (oldest_in (slice_get x.boxes b))) e old (empty_owned (taken_after_reply r slot (oldest_in (slice_get x.boxes b)) y) (taken_hand r slot (oldest_in (slice_get x.boxes b)) y ∙ f))
    ask_owned hp x p y (PublicAct a r g) e f old = at_proc x p y (act_after_reply r g a (reply_of s hp x.desk (act_entry s hp x.desk a))) e old (empty_owned (act_after_reply r g a (reply_of s hp x.desk (act_entry s hp x.desk a)) y) f.0)
    ask_owned hp x p y (AsksJudgement m) e f old = at_proc x p y (judged_after_reply m (attached s hp x.desk m) (judged s hp x.desk m)) e old (judged_owned m (attached s hp x.desk m) (judged s hp x.desk m) y f.0 f.1)

    proc_owned : (hp : HostPlan) (x : Host) (p : ℕ) (o : Option Process) → slice_get x.procs p ≡ o → OwnedHost x → OwnedHost (step_proc s hp x p o)
    proc_owned hp x p None e old = old
    proc_owned hp x p (Some y) e old = ask_owned hp x p y (ask hp p y) e (own_facts hp p y) old

    lane_owned : (hp : HostPlan) (x : Host) (l : ℕ) (a : LaneAsk) → OwnedHost x → OwnedHost (perform_lane s hp x l a)
    lane_owned hp x l WorkerWaits old = old
    lane_owned hp x l Lifts old = old
    lane_owned hp x l (AsksRecheck hand) old = old

    conn_owned : (hp : HostPlan) (x : Host) (y : Conn) (a : ConnAsk) → OwnedHost x → OwnedHost (perform_conn s hp x y a).host
    conn_owned hp x y ConnWaits old = old
    conn_owned hp x y (ConnInternal next) old = old
    conn_owned hp x y (AsksInlet i n fresh stale) old = old
    conn_owned hp x y (AsksArrival lane m rest) old = old
    conn_owned hp x y (PutsPassed b m next) old = old

    tick_owned : (z : Bool) (key : Rattle.ds_label.specs.declared.category.PubKey.PubKey) (t : ℕ) (x : Host) → OwnedHost x → OwnedHost (cond z x (record x { desk = desk_after key (Ticked t) x.desk }))
    tick_owned true key t x old = old
    tick_owned false key t x old = old

    on_host_owned : (w : World) (h : ℕ) (f : Host → Host) → OwnedWorld w → ((x : Host) → slice_get w.hosts h ≡ Some x → OwnedHost x → OwnedHost (f x)) → OwnedWorld (on_host h f w)
    on_host_owned w h f old new = all_at (λ j x. OwnedHost x) h f w.hosts (λ j x n e. old j x e) (λ x e. new x e (old h x e))

    lane_o : (hp : HostPlan) (x : Host) (l : ℕ) (o : Option Rattle.ds_model.specs.World.Worker) → OwnedHost x → OwnedHost (step_lane s hp x l o)
    lane_o hp x l None old = old
    lane_o hp x l (Some e) old = lane_owned hp x l (lane_ask s (Rattle.ds_model.specs.Plan.lane_plan hp l) e) old

    conn_o : (w : World) (k : ℕ) (asks : Conn → ConnAsk) (o : Option Host) (q : Option Conn) → slice_get w.hosts (conn_plan plan k).host ≡ o → OwnedWorld w → OwnedWorld (step_conn s plan w (conn_plan plan k).host k asks o q)
    conn_o w k asks None q e old = old
    conn_o w k asks (Some x) None e old = old
    conn_o w k asks (Some x) (Some y) e old = all_at (λ j z. OwnedHost z) (conn_plan plan k).host (λ _. (perform_conn s (host_plan plan (conn_plan plan k).host) x y (asks y)).host) w.hosts (λ j z n i. old j z i) (λ z i. conn_owned (host_plan plan (conn_plan plan k).host) x y (asks y) (old (conn_plan plan k).host x e))

    event_owned : (w : World) (e : Event) → OwnedWorld w → OwnedWorld (happens s plan w e)
    event_owned w (Step h p) old = on_host_owned w h (λ x. step_proc s (host_plan plan h) x p (slice_get x.procs p)) old (λ x e o. proc_owned (host_plan plan h) x p (slice_get x.procs p) refl o)
    event_owned w (Frame h l) old = on_host_owned w h (λ x. step_lane s (host_plan plan h) x l (slice_get x.workers l)) old (λ x e o. lane_o (host_plan plan h) x l (slice_get x.workers l) o)
    event_owned w (Arrive k n) old = old
    event_owned w (Accept k) old = conn_o w k (λ y. accept s (host_plan plan (conn_plan plan k).host) y (arrived w (conn_plan plan k).source y)) (slice_get w.hosts (conn_plan plan k).host) (slice_get w.conns k) refl old
    event_owned w (Deliver k) old = conn_o w k (λ y. deliver s (host_plan plan (conn_plan plan k).host) y (arrived w (conn_plan plan k).source y)) (slice_get w.hosts (conn_plan plan k).host) (slice_get w.conns k) refl old
    event_owned w (Tick h t) old = on_host_owned w h (ticked (host_plan plan h) t) old (λ x e o. tick_owned (host_plan plan h).silent (host_plan plan h).key t x o)
    event_owned w (Inject k bytes) old = old
    event_owned w (Copy k j from until) old = old

    run_owned : (w : World) (events : List Event) → OwnedWorld w → OwnedWorld (run s plan w events)
    run_owned w [] old = old
    run_owned w (e ∷ events) old = run_owned (step s plan w e) events (event_owned w (resolve plan w e) old)

  -- RELEASES

  without : (b : Bool) (r q : Released) → unless_has b r ≡ Some q → b ≡ false
  without false r q e = refl
  without true r q e = absurd (grind arith)

  releases_own : (x : Process) (a : Ask) (r : Released) → OwnFacts x a → Owned x → (has by_name c x.label || has by_name c x.own) ≡ true → released c a ≡ Some r → has by_name c x.own ≡ true
  releases_own x Waits r f owned high e = absurd (grind arith)
  releases_own x (Internal next) r f owned high e = absurd (grind arith)
  releases_own x (Put b m next) r f owned high e = lets_own x m.label f.1 (without (has by_name c m.label) (ToBox b m) r e) high
  releases_own x (Admit l m next) r f owned high e = owned m f.0 (without (has by_name c m.label) (ToLane l m) r e) high
  releases_own x (TakeFrom b reg slot) r f owned high e = absurd (grind arith)
  releases_own x (PublicAct act reg host) r f owned high e = go (or_cases _ _ high)
    where
      go : (has by_name c x.label ≡ true) ⊎ (has by_name c x.own ≡ true) → has by_name c x.own ≡ true
      go (inl l) = f.1 l
      go (inr o) = o
  releases_own x (AsksJudgement m) r f owned high e = absurd (grind arith)

  module _ (trusted : List ℕ) (plan : Plan) (w : World) (owned : OwnedWorld w) where
    abbrev Owner : ℕ → ℕ → Type 0
    Owner h p = (x : Process) × (proc_at w h p ≡ Some x) × (has by_name c x.own ≡ true)

    in_host : (h p : ℕ) (o : Option Host) (x : Process) → slice_get w.hosts h ≡ o → proc_in o p ≡ Some x → Owned x
    in_host h p None x e q = absurd (none_some x q)
    in_host h p (Some y) x e q = owned h y e p x q

    by_released : (g q h p : ℕ) (r : Released) (x : Process) (o : Option Released) → proc_at w g q ≡ Some x → (high : high_proc c (is_in trusted g) x ≡ true) → released c (ask (host_plan plan g) q x) ≡ o → mark_released g q o ≡ Release h p r → Owner h p
    by_released g q h p r x None there high is e = absurd (grind arith)
    by_released g q h p r x (Some r') there high is e =
        let i : g ≡ h = cc in
        let j : q ≡ p = cc in
        subst (λ u. Owner u p) i (subst (Owner g) j (x, there, releases_own x (ask (host_plan plan g) q x) r' (own_facts (host_plan plan g) q x) (in_host g q (slice_get w.hosts g) x refl there) (and_right _ _ high) is))

    by_proc : (g q h p : ℕ) (r : Released) (o : Option Process) → proc_at w g q ≡ o → mark_proc c (is_in trusted g) (host_plan plan g) g q o ≡ Release h p r → Owner h p
    by_proc g q h p r None there e = absurd (grind arith)
    by_proc g q h p r (Some x) there e = go (high_proc c (is_in trusted g) x) refl e
      where
        go : (z : Bool) → high_proc c (is_in trusted g) x ≡ z → cond z (mark_released g q (released c (ask (host_plan plan g) q x))) (Low (Step g q)) ≡ Release h p r → Owner h p
        go true high e' = by_released g q h p r x (released c (ask (host_plan plan g) q x)) there high refl e'
        go false high e' = absurd (grind arith)

    no_release : (b : Bool) (e : Event) (h p : ℕ) (r : Released) → high_or b e ≡ Release h p r → ⊥
    no_release true e h p r q = grind arith
    no_release false e h p r q = grind arith

    by_mark : (e : Event) (h p : ℕ) (r : Released) → mark_of c trusted plan w e ≡ Release h p r → Owner h p
    by_mark (Step g q) h p r e = by_proc g q h p r (proc_in (slice_get w.hosts g) q) refl e
    by_mark (Frame g l) h p r e = absurd (no_release (high_lane c trusted plan g l) (Frame g l) h p r e)
    by_mark (Arrive k n) h p r e = absurd (no_release (high_conn c trusted plan k) (Arrive k n) h p r e)
    by_mark (Accept k) h p r e = absurd (no_release (high_conn c trusted plan k) (Accept k) h p r e)
    by_mark (Deliver k) h p r e = absurd (no_release (high_conn c trusted plan k) (Deliver k) h p r e)
    by_mark (Tick g t) h p r e = absurd (grind arith)
    by_mark (Inject k bytes) h p r e = absurd (grind arith)
    by_mark (Copy k j from until) h p r e = absurd (grind arith)

pub only_owners : OnlyOwnersRelease
only_owners s c trusted plan start events e h p r secret setup is =
    by_mark c secret trusted plan (run s plan start events) (run_owned c secret s plan start events (λ g x there q y acts. empty_owned c secret y (setup.procs g x q y there acts))) (resolve plan (run s plan start events) e) h p r is

-- a step that changes the desk is a public act
module _ (c : Category) (secret : is_secrecy c.kind ≡ true) (s : Scheme) (plan : HostPlan) (x : Host) (p : ℕ) (y : Process) where
  act_owns : (a : Ask) → OwnFacts c secret y a → ((perform s plan x p a).desk ≡ x.desk → ⊥) → has by_name c y.label ≡ true → has by_name c y.own ≡ true
  act_owns Waits f n l = absurd (n refl)
  act_owns (Internal next) f n l = absurd (n refl)
  act_owns (Put b m next) f n l = absurd (n refl)
  act_owns (Admit i m next) f n l = absurd (n refl)
  act_owns (TakeFrom b reg slot) f n l = absurd (n refl)
  act_owns (PublicAct act reg host) f n l = f.1 l
  act_owns (AsksJudgement m) f n l = absurd (n refl)

pub only_owners_act : OnlyOwnersAct
only_owners_act s plan w h p y c there moved secret label = go (slice_get w.hosts h) refl there
  where
    go : (o : Option Host) → slice_get w.hosts h ≡ o → proc_in o p ≡ Some y → has by_name c y.own ≡ true
    go None e acts = absurd (none_some y acts)
    go (Some x) e acts = act_owns c secret s (host_plan plan h) x p y (ask (host_plan plan h) p y) (own_facts c secret (host_plan plan h) p y) still label
      where
        after : slice_get (step s plan w (Step h p)).hosts h ≡ Some (perform s (host_plan plan h) x p (ask (host_plan plan h) p y))
        after = at_here h (λ x'. step_proc s (host_plan plan h) x' p (slice_get x'.procs p)) w.hosts ∙ (ap (option_map (λ x'. step_proc s (host_plan plan h) x' p (slice_get x'.procs p))) e ∙ ap (λ q. Some (step_proc s (host_plan plan h) x p q)) acts)

        still : (perform s (host_plan plan h) x p (ask (host_plan plan h) p y)).desk ≡ x.desk → ⊥
        still same = moved (ap (option_map (λ u. u.desk)) after ∙ (ap Some same ∙ sym (ap (option_map (λ u. u.desk)) e)))
