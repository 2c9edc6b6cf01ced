-- Where the canonical schedule has no event nothing is left to do.
use Rattle.std.proofs.Common.{◌≡◌, ℕ, zero, suc, ◌+◌, ◌-◌, ◌<◌, ◌≤◌, min, Bool, true, false, List, [], ◌∷◌, ◌++◌, length, map, Option, Some, None, slice_get, get_or, option_map, refl, sym, ap, ◌∙◌, subst, ◌⊎◌, inl, inr, arith}
use Rattle.std.specs.Prelude.{◌==◌, ◌||◌}
use Rattle.std.specs.List.{AllByRecursion}
use Rattle.std.proofs.lemmas.List.{length-map}
use Rattle.std.proofs.lemmas.Option.{none-some, slice_get_cases, slice_get_past, slice_get_within}
use Rattle.ds_model.specs.Lists.{gathered}
use Rattle.ds_model.specs.Scheme.{Scheme}
use Rattle.ds_model.specs.Plan.{HostPlan, Plan, conn_plan, host_plan}
use Rattle.ds_model.specs.World.{Conn, Host, Process, Worker, World}
use Rattle.ds_model.specs.ConnectionStep.{accept, deliver}
use Rattle.ds_model.specs.ConnectionStep.{arrive as arrives}
use Rattle.ds_model.specs.Step.{Event, Step, Frame, Arrive, Accept, Deliver, Tick, Inject, Copy, on_host, run, step_lane, step_proc, stream_at, stream_of}
use Rattle.ds_model.specs.Schedule.{Decides, IsCanonical, Schedule, Test, all_connected, all_tried, bytes_left, canonical, connected, count_of, delivered, host_events, round, rounds, turned}
use Rattle.ds_model.specs.Views.{IsQuiet, IsStill}
use native.Mathlib.Decide.{ℕ_discrete}
use Rattle.ds_model.proofs.Places.{at_here, at_still, some_is}
use Rattle.ds_plan.specs.declared.doc.Doc.{Doc}
use Rattle.ds_setup.specs.Plans.{plan_of}
use Rattle.ds_setup.specs.Events.{meant}
use Rattle.ds_plan.specs.declared.event.Event.{Event as DocEvent}
use Rattle.ds_mesh.specs.Phases.{IsAtRest}
use Rattle.ds_scheme.specs.TheScheme.{scheme}
use Rattle.ds_exporter.specs.PlainHosts.{plain_process, plain_worker, plan_of_lane}
use Rattle.ds_hosts.specs.Nodes.{NodeState, Running, Silent, IsPlanOf, plain_host}
use Rattle.ds_world.specs.declared.route.Route.{Route}
use Rattle.ds_world.specs.Worlds.{WorldState, IsWorld, conn_by, routes_of, world_of}
use Rattle.ds_world.proofs.Answered.{none_asks}
use Rattle.ds_world.proofs.Changes.{conn_none, conn_there, host_there}
use Rattle.ds_world.proofs.Counts.{conns_planned, hosts_planned}
use Rattle.ds_world.proofs.OneHost.{no_host}
use Rattle.ds_world.proofs.Rounds.{IsAtLeast, all_connected_keeps, all_tried_keeps, attempt, came, choice, connected_keeps, delivered_keeps, either, full, grows, neither, one_delivery, rounds_keeps, skipped, turned_keeps}
use Rattle.std.proofs.lemmas.Bool.{cond-false, cond-true}
use Rattle.std.proofs.lemmas.List.{length-append}

-- one of those below, or the last of them
by_last : (P : ℕ → Type 0) (k n : ℕ) → k < suc n → (k < n → P k) → P n → P k
by_last P k n within before here = go (ℕ_discrete k n)
  where
    go : Dec (k ≡ n) → P k
    go (yes is) = subst P (sym is) here
    go (no apart) = before (grind (arith, within, apart))

-- HOW MANY EVENTS A SCHEDULE HAS

module _ (changes : Test) (s : Scheme) (plan : Plan) (budget : ℕ) where
  abbrev IsCounted : Schedule → Type 0
  IsCounted sch = length sch.events + sch.left ≡ budget

  still_counted : (e : Event) (sch : Schedule) → IsCounted sch → IsCounted (attempt changes s plan e sch)
  still_counted e sch is = go (changes sch.world e) refl sch.left refl
    where
      go : (b : Bool) → changes sch.world e ≡ b → (n : ℕ) → sch.left ≡ n → IsCounted (attempt changes s plan e sch)
      go false q n some = subst IsCounted (sym (skipped changes s plan e sch q)) is
      go true q zero none = subst IsCounted (sym (full changes s plan e sch none)) is
      go true q (suc n) some = subst IsCounted (sym (came changes s plan e sch n q some)) (omega (arith, is, some, length-append sch.events (e ∷ [])))

  pub canonical_few : (w : World) → length (canonical changes s plan budget w) ≤ budget
  canonical_few w = omega (arith, rounds_keeps changes s plan IsCounted still_counted budget (suc budget) (record { world = w; events = []; left = budget }) (omega arith))

-- IN A SCHEDULE THAT KEEPS NOTHING

module _ (changes : Test) (s : Scheme) (plan : Plan) (w : World) (left : ℕ) where
  abbrev pub start : Schedule
  start = record { world = w; events = []; left = suc left }

  abbrev IsEmpty : Schedule → Type 0
  IsEmpty sch = length sch.events ≡ 0

  abbrev pub Stays : Event → Type 0
  Stays e = changes w e ≡ false

  -- what comes is kept by all that follows
  kept_one : (e : Event) → changes w e ≡ true → 1 ≤ length (attempt changes s plan e start).events
  kept_one e q = omega (arith, ap (λ (x : Schedule). length x.events) (came changes s plan e start left q refl))

  -- a test, by cases that say what it is
  by_test : (P : Type 0) (e : Event) → (changes w e ≡ true → P) → (changes w e ≡ false → P) → P
  by_test P e comes stays = go (changes w e) refl
    where
      go : (b : Bool) → changes w e ≡ b → P
      go true q = comes q
      go false q = stays q

  tried_none : (events : List Event) → IsEmpty (all_tried changes s plan events start)
      → AllByRecursion Stays events × (all_tried changes s plan events start ≡ start)
  tried_none [] none = (tt, refl)
  tried_none (e ∷ events) none = by_test (AllByRecursion Stays (e ∷ events) × (all_tried changes s plan (e ∷ events) start ≡ start)) e
      (λ q. absurd (omega (arith, none, all_tried_keeps changes s plan (IsAtLeast changes s plan 1) (grows changes s plan 1) events (attempt changes s plan e start) (kept_one e q))))
      (λ q.
      let same : attempt changes s plan e start ≡ start = skipped changes s plan e start q in
      let here : all_tried changes s plan (e ∷ events) start ≡ all_tried changes s plan events start = ap (all_tried changes s plan events) same in
      let rest = tried_none events (sym (ap (λ (x : Schedule). length x.events) here) ∙ none) in
      ((q, rest.0), here ∙ rest.1))

  -- what a connection that keeps nothing has tried
  pub record ConnStays (k : ℕ) : Type 0 where
    pub arrives_not : Stays (Arrive k (bytes_left plan w k))
    pub accepts_not : Stays (Accept k)
    pub delivers_not : Stays (Deliver k)

  abbrev turns_of : (k budget most : ℕ) → Schedule → Schedule
  turns_of k budget most sch = turned changes s plan k budget most sch

  turns_none : (k budget most : ℕ) → IsEmpty (turns_of k (suc budget) (suc most) start) → Stays (Accept k) × Stays (Deliver k)
  turns_none k budget most none = by_test (Stays (Accept k) × Stays (Deliver k)) (Accept k)
      (λ q. absurd (omega (arith, none, goes (inl q) (delivered_keeps changes s plan (IsAtLeast changes s plan 1) (grows changes s plan 1) k (suc budget) (attempt changes s plan (Accept k) start) (kept_one (Accept k) q)))))
      (λ q. by_test (Stays (Accept k) × Stays (Deliver k)) (Deliver k)
      (λ p.
      let same : delivered changes s plan k (suc budget) (attempt changes s plan (Accept k) start) ≡ delivered changes s plan k budget (attempt changes s plan (Deliver k) start)
      = ap (delivered changes s plan k (suc budget)) (skipped changes s plan (Accept k) start q) ∙ one_delivery changes s plan k budget start p in
      let more : 1 ≤ length (delivered changes s plan k budget (attempt changes s plan (Deliver k) start)).events
      = delivered_keeps changes s plan (IsAtLeast changes s plan 1) (grows changes s plan 1) k budget (attempt changes s plan (Deliver k) start) (kept_one (Deliver k) p) in
      absurd (omega (arith, none, goes (inr p) (omega (arith, more, ap (λ (x : Schedule). length x.events) same)))))
      (λ p. (q, p)))
    where
      next : Schedule
      next = delivered changes s plan k (suc budget) (attempt changes s plan (Accept k) start)

      goes : (changes w (Accept k) ≡ true) ⊎ (changes w (Deliver k) ≡ true) → 1 ≤ length next.events → 1 ≤ length (turns_of k (suc budget) (suc most) start).events
      goes e more = subst (λ (x : Schedule). 1 ≤ length x.events)
          (sym (cond-true (changes w (Accept k) || changes w (Deliver k)) (turns_of k (suc budget) most next) start (either changes s plan (changes w (Accept k)) (changes w (Deliver k)) e)))
          (turned_keeps changes s plan (IsAtLeast changes s plan 1) (grows changes s plan 1) k (suc budget) most next more)

  -- a connection that keeps nothing changes nothing
  connected_none : (budget k : ℕ) → IsEmpty (connected changes s plan (suc budget) k start) → ConnStays k × (connected changes s plan (suc budget) k start ≡ start)
  connected_none budget k none =
      let event : Event = Arrive k (bytes_left plan w k) in
      by_test (ConnStays k × (connected changes s plan (suc budget) k start ≡ start)) event
      (λ q. absurd (omega (arith, none, turned_keeps changes s plan (IsAtLeast changes s plan 1) (grows changes s plan 1) k (suc budget) (suc budget) (attempt changes s plan event start) (kept_one event q))))
      (λ q.
      let same : connected changes s plan (suc budget) k start ≡ turns_of k (suc budget) (suc budget) start = ap (turns_of k (suc budget) (suc budget)) (skipped changes s plan event start q) in
      let stays = turns_none k budget budget (sym (ap (λ (x : Schedule). length x.events) same) ∙ none) in
      let next : Schedule = delivered changes s plan k (suc budget) (attempt changes s plan (Accept k) start) in
      let ends : turns_of k (suc budget) (suc budget) start ≡ start
      = cond-false (changes w (Accept k) || changes w (Deliver k)) (turns_of k (suc budget) budget next) start (neither changes s plan (changes w (Accept k)) (changes w (Deliver k)) stays.0 stays.1) in
      (record { arrives_not = q; accepts_not = stays.0; delivers_not = stays.1 }, same ∙ ends))

  all_connected_none : (budget conns : ℕ) → IsEmpty (all_connected changes s plan (suc budget) conns start)
      → ((k : ℕ) → k < conns → ConnStays k) × (all_connected changes s plan (suc budget) conns start ≡ start)
  all_connected_none budget zero none = ((λ k within. absurd (omega (arith, within))), refl)
  all_connected_none budget (suc conns) none =
      let before : Schedule = all_connected changes s plan (suc budget) conns start in
      let n : ℕ = length before.events in
      let fewer : n ≤ length (connected changes s plan (suc budget) conns before).events = connected_keeps changes s plan (IsAtLeast changes s plan n) (grows changes s plan n) (suc budget) conns before (omega arith) in
      let empty : IsEmpty before = omega (arith, none, fewer) in
      let first = all_connected_none budget conns empty in
      let same : connected changes s plan (suc budget) conns before ≡ connected changes s plan (suc budget) conns start = ap (connected changes s plan (suc budget) conns) first.1 in
      let last = connected_none budget conns (sym (ap (λ (x : Schedule). length x.events) same) ∙ none) in
      ((λ k within. by_last (λ j. ConnStays j) k conns within (first.0 k) last.0), same ∙ last.1)

  -- a round
  pub record RoundStays : Type 0 where
    pub events : AllByRecursion Stays (gathered (host_events plan) (length plan.hosts))
    pub conns : (k : ℕ) → k < length plan.conn_plans → ConnStays k

  round_none : (budget : ℕ) → IsEmpty (round changes s plan (suc budget) start) → RoundStays
  round_none budget none =
      let tried_all : Schedule = all_tried changes s plan (gathered (host_events plan) (length plan.hosts)) start in
      let n : ℕ = length tried_all.events in
      let fewer : n ≤ length (round changes s plan (suc budget) start).events
      = all_connected_keeps changes s plan (IsAtLeast changes s plan n) (grows changes s plan n) (suc budget) (length plan.conn_plans) tried_all (omega arith) in
      let hosts = tried_none (gathered (host_events plan) (length plan.hosts)) (omega (arith, none, fewer)) in
      let same : round changes s plan (suc budget) start ≡ all_connected changes s plan (suc budget) (length plan.conn_plans) start
      = ap (all_connected changes s plan (suc budget) (length plan.conn_plans)) hosts.1 in
      record {
        events = hosts.0;
        conns = (all_connected_none budget (length plan.conn_plans) (sym (ap (λ (x : Schedule). length x.events) same) ∙ none)).0;
      }

  pub canonical_none : [] ≡ canonical changes s plan (suc left) w → RoundStays
  canonical_none none =
      let next : Schedule = round changes s plan (suc left) start in
      let n : ℕ = length next.events in
      let more : n ≤ length (rounds changes s plan (suc left) (suc (suc left)) start).events
      = choice (IsAtLeast changes s plan n) (length next.events == length start.events) next (rounds changes s plan (suc left) (suc left) next) (omega arith)
      (rounds_keeps changes s plan (IsAtLeast changes s plan n) (grows changes s plan n) (suc left) (suc left) next (omega arith)) in
      round_none left (omega (arith, more, ap length none))

-- LISTS THAT ARE GATHERED

all_front : {X : Type 0} (P : X → Type 0) (xs ys : List X) → AllByRecursion P (xs ++ ys) → AllByRecursion P xs
all_front P [] ys all = tt
all_front P (x ∷ xs) ys all = (all.0, all_front P xs ys all.1)

all_back : {X : Type 0} (P : X → Type 0) (xs ys : List X) → AllByRecursion P (xs ++ ys) → AllByRecursion P ys
all_back P [] ys all = all
all_back P (x ∷ xs) ys all = all_back P xs ys all.1

all_gathered : {X : Type 0} (P : X → Type 0) (f : ℕ → List X) (n i : ℕ) → i < n → AllByRecursion P (gathered f n) → AllByRecursion P (f i)
all_gathered P f zero i within all = absurd (omega (arith, within))
all_gathered P f (suc n) i within all =
    by_last (λ k. AllByRecursion P (f k)) i n within (λ less. all_gathered P f n i less (all_front P (gathered f n) (f n) all)) (all_back P (gathered f n) (f n) all)

-- IN A WORLD OF A DOCUMENT

procs_of_node : (plan : HostPlan) (x : NodeState) → IsPlanOf plan x → (p : ℕ) → plan.procs ≤ p → slice_get (plain_host x).procs p ≡ None
procs_of_node plan (Running e) is p past = slice_get_past (plain_host (Running e)).procs p (omega (arith, past, length-map e.procs (plain_process e.desk.here e.desk.desk.rows), ap (λ (h : HostPlan). h.procs) is))
procs_of_node plan (Silent conns) is p past = refl

workers_of_node : (plan : HostPlan) (x : NodeState) → IsPlanOf plan x → (l : ℕ) → length plan.lanes ≤ l → slice_get (plain_host x).workers l ≡ None
workers_of_node plan (Running e) is l past =
    slice_get_past (plain_host (Running e)).workers l (omega (arith, past, length-map e.lanes plain_worker, length-map e.lanes plan_of_lane, ap (λ (h : HostPlan). length h.lanes) is))
workers_of_node plan (Silent conns) is l past = refl

module _ (w : WorldState) (is : IsWorld w) (changes : Test) (decides : Decides scheme (plan_of w.doc) changes) (left : ℕ)
    (none : [] ≡ canonical changes scheme (plan_of w.doc) (suc left) (world_of w)) where
  plan : Plan
  plan = plan_of w.doc

  stays : RoundStays changes scheme (plan_of w.doc) (world_of w) left
  stays = canonical_none changes scheme (plan_of w.doc) (world_of w) left none

  still : (e : Event) → changes (world_of w) e ≡ false → IsStill scheme (plan_of w.doc) (world_of w) e
  still e q = (decides (world_of w) e).0 q

  host_still : (h : ℕ) (f : Host → Host) → ((x : Host) → slice_get (world_of w).hosts h ≡ Some x → f x ≡ x) → on_host h f (world_of w) ≡ world_of w
  host_still h f same = λ i. record { hosts = at_still h f (world_of w).hosts same i; conns = (world_of w).conns }

  hosts_within : (h : ℕ) (x : NodeState) → slice_get w.nodes h ≡ Some x → h < length (plan_of w.doc).hosts
  hosts_within h x there = omega (arith, slice_get_within w.nodes h x there, is.hosts, hosts_planned w.doc)

  plain_is : (h : ℕ) (x : NodeState) (z : Host) → slice_get w.nodes h ≡ Some x → slice_get (world_of w).hosts h ≡ Some z → z ≡ plain_host x
  plain_is h x z there h' = some_is z (plain_host x) (sym h' ∙ host_there w h x there)

  -- by whether there is such a host
  by_host : (P : Type 0) (h : ℕ) → (length w.nodes ≤ h → P) → ((x : NodeState) → slice_get w.nodes h ≡ Some x → P) → P
  by_host P h past there = go (slice_get_cases w.nodes h).1
    where
      go : ((x : NodeState) × (h < length w.nodes) × (slice_get w.nodes h ≡ Some x) × (get_or w.nodes h x ≡ x)) ⊎ ((length w.nodes ≤ h) × (slice_get w.nodes h ≡ None)) → P
      go (inl found) = there found.0 found.2
      go (inr lost) = past lost.0

  by_size : (P : Type 0) (i n : ℕ) → (i < n → P) → (n ≤ i → P) → P
  by_size P i n less more = go (nat_cases i n)
    where
      nat_cases : (i n : ℕ) → (i < n) ⊎ (n ≤ i)
      nat_cases i zero = inr (omega arith)
      nat_cases zero (suc n) = inl (omega arith)
      nat_cases (suc i) (suc n) = lift_cases (nat_cases i n)
        where
          lift_cases : (i < n) ⊎ (n ≤ i) → (suc i < suc n) ⊎ (suc n ≤ suc i)
          lift_cases (inl l) = inl (omega (arith, l))
          lift_cases (inr m) = inr (omega (arith, m))

      go : (i < n) ⊎ (n ≤ i) → P
      go (inl l) = less l
      go (inr m) = more m

  host_stays : (h : ℕ) (x : NodeState) → slice_get w.nodes h ≡ Some x → AllByRecursion (Stays changes scheme (plan_of w.doc) (world_of w) left) (host_events (plan_of w.doc) h)
  host_stays h x there = all_gathered (Stays changes scheme (plan_of w.doc) (world_of w) left) (host_events (plan_of w.doc)) (length (plan_of w.doc).hosts) h (hosts_within h x there) stays.events

  quiet_step : (h p : ℕ) → IsStill scheme (plan_of w.doc) (world_of w) (Step h p)
  quiet_step h p = by_host (IsStill scheme (plan_of w.doc) (world_of w) (Step h p)) h
      (λ past. no_host w h (λ x. step_proc scheme (host_plan (plan_of w.doc) h) x p (slice_get x.procs p)) past)
      (λ x there.
      let here : HostPlan = host_plan (plan_of w.doc) h in
      let P : Event → Type 0 = Stays changes scheme (plan_of w.doc) (world_of w) left in
      let steps : List Event = gathered (λ q. Step h q ∷ []) here.procs in
      let frames : List Event = gathered (λ l. Frame h l ∷ Frame h l ∷ []) (length here.lanes) in
      by_size (IsStill scheme (plan_of w.doc) (world_of w) (Step h p)) p here.procs
      (λ less. still (Step h p) (all_gathered P (λ q. Step h q ∷ []) here.procs p less (all_front P steps frames (host_stays h x there))).0)
      (λ past. host_still h (λ z. step_proc scheme here z p (slice_get z.procs p))
      (λ z at_h. ap (λ (o : Option Process). step_proc scheme here z p o) (ap (λ (q : Host). slice_get q.procs p) (plain_is h x z there at_h) ∙ procs_of_node here x (is.nodes h x there).plan p past))))

  quiet_frame : (h l : ℕ) → IsStill scheme (plan_of w.doc) (world_of w) (Frame h l)
  quiet_frame h l = by_host (IsStill scheme (plan_of w.doc) (world_of w) (Frame h l)) h
      (λ past. no_host w h (λ x. step_lane scheme (host_plan (plan_of w.doc) h) x l (slice_get x.workers l)) past)
      (λ x there.
      let here : HostPlan = host_plan (plan_of w.doc) h in
      let P : Event → Type 0 = Stays changes scheme (plan_of w.doc) (world_of w) left in
      let steps : List Event = gathered (λ q. Step h q ∷ []) here.procs in
      let frames : List Event = gathered (λ j. Frame h j ∷ Frame h j ∷ []) (length here.lanes) in
      by_size (IsStill scheme (plan_of w.doc) (world_of w) (Frame h l)) l (length here.lanes)
      (λ less. still (Frame h l) (all_gathered P (λ j. Frame h j ∷ Frame h j ∷ []) (length here.lanes) l less (all_back P steps frames (host_stays h x there))).0)
      (λ past. host_still h (λ z. step_lane scheme here z l (slice_get z.workers l))
      (λ z at_h. ap (λ (o : Option Worker). step_lane scheme here z l o) (ap (λ (q : Host). slice_get q.workers l) (plain_is h x z there at_h) ∙ workers_of_node here x (is.nodes h x there).plan l past))))

  -- by whether there is such a connection
  by_conn : (P : Type 0) (k : ℕ) → (slice_get (routes_of w.doc) k ≡ None → P) → ((r : Route) → slice_get (routes_of w.doc) k ≡ Some r → P) → P
  by_conn P k none there = go (slice_get (routes_of w.doc) k) refl
    where
      go : (o : Option Route) → slice_get (routes_of w.doc) k ≡ o → P
      go None h = none h
      go (Some r) h = there r h

  conn_stays : (k : ℕ) (r : Route) → slice_get (routes_of w.doc) k ≡ Some r → ConnStays changes scheme (plan_of w.doc) (world_of w) left k
  conn_stays k r h = stays.conns k (omega (arith, slice_get_within (routes_of w.doc) k r h, conns_planned w.doc))

  -- so many bytes more
  abbrev more_arrive : (k n : ℕ) → Conn → Conn
  more_arrive k n conn = arrives (stream_of (world_of w) (conn_plan (plan_of w.doc) k).source conn) n conn

  conns_still : (k n : ℕ) → ((y : Conn) → slice_get (world_of w).conns k ≡ Some y → more_arrive k n y ≡ y) → IsStill scheme (plan_of w.doc) (world_of w) (Arrive k n)
  conns_still k n same = λ i. record { hosts = (world_of w).hosts; conns = at_still k (more_arrive k n) (world_of w).conns same i }

  quiet_arrive : (k n : ℕ) → IsStill scheme (plan_of w.doc) (world_of w) (Arrive k n)
  quiet_arrive k n = by_conn (IsStill scheme (plan_of w.doc) (world_of w) (Arrive k n)) k
      (λ lost. conns_still k n (λ y h. absurd (none-some y (sym (conn_none w k lost) ∙ h))))
      (λ r route.
      let y : Conn = conn_by w k r in
      let there : slice_get (world_of w).conns k ≡ Some y = conn_there w k r route in
      let size : ℕ = length (stream_of (world_of w) (conn_plan (plan_of w.doc) k).source y) in
      let rest : ℕ = bytes_left (plan_of w.doc) (world_of w) k in
      let rest_is : rest ≡ size - y.count = ap (λ (o : Option Conn). length (stream_at (world_of w) (plan_of w.doc) k o) - count_of o) there in
      let same : IsStill scheme (plan_of w.doc) (world_of w) (Arrive k rest) = still (Arrive k rest) (conn_stays k r route).arrives_not in
      let one : more_arrive k rest y ≡ y = some_is (more_arrive k rest y) y
      (sym (at_here k (more_arrive k rest) (world_of w).conns ∙ ap (option_map (more_arrive k rest)) there) ∙ (ap (λ (v : World). slice_get v.conns k) same ∙ there)) in
      let count : min size (y.count + rest) ≡ y.count = ap (λ (c : Conn). c.count) one in
      let all : min size (y.count + n) ≡ y.count = omega (arith, count, rest_is) in
      conns_still k n (λ z h.
      let e : y ≡ z = some_is y z (sym there ∙ h) in
      subst (λ (c : Conn). more_arrive k n c ≡ c) e (λ i. record y { count = all i })))

  quiet_accept : (k : ℕ) → IsStill scheme (plan_of w.doc) (world_of w) (Accept k)
  quiet_accept k = by_conn (IsStill scheme (plan_of w.doc) (world_of w) (Accept k)) k
      (λ lost. none_asks (λ (here : HostPlan) (c : Conn) (bytes : List ℕ). accept scheme here c bytes) w k lost)
      (λ r route. still (Accept k) (conn_stays k r route).accepts_not)

  quiet_deliver : (k : ℕ) → IsStill scheme (plan_of w.doc) (world_of w) (Deliver k)
  quiet_deliver k = by_conn (IsStill scheme (plan_of w.doc) (world_of w) (Deliver k)) k
      (λ lost. none_asks (λ (here : HostPlan) (c : Conn) (bytes : List ℕ). deliver scheme here c bytes) w k lost)
      (λ r route. still (Deliver k) (conn_stays k r route).delivers_not)

  pub all_quiet : IsQuiet scheme (plan_of w.doc) (world_of w)
  all_quiet (Step h p) work = quiet_step h p
  all_quiet (Frame h l) work = quiet_frame h l
  all_quiet (Arrive k n) work = quiet_arrive k n
  all_quiet (Accept k) work = quiet_accept k
  all_quiet (Deliver k) work = quiet_deliver k
  all_quiet (Tick h t) work = grind (arith, work)
  all_quiet (Inject k bytes) work = grind (arith, work)
  all_quiet (Copy k j from until) work = grind (arith, work)

pub quiet_of : (w : WorldState) (budget : ℕ) → IsWorld w → 0 < budget → IsCanonical scheme (plan_of w.doc) budget (world_of w) [] → IsQuiet scheme (plan_of w.doc) (world_of w)
quiet_of w zero is some canonical_is = absurd (omega (arith, some))
quiet_of w (suc left) is some canonical_is = all_quiet w is canonical_is.changes canonical_is.decides left canonical_is.made

-- AFTER A SCHEDULE

pub schedule_few : (w : WorldState) (budget : ℕ) (events : List DocEvent) → IsCanonical scheme (plan_of w.doc) budget (world_of w) (map meant events) → length events ≤ budget
schedule_few w budget events is = omega (arith, length-map events meant, ap length is.made, canonical_few is.changes scheme (plan_of w.doc) budget (world_of w))

pub rest_after : (w v : WorldState) (budget : ℕ) (events : List DocEvent) → IsWorld v → v.doc ≡ w.doc → 0 < budget → IsCanonical scheme (plan_of w.doc) budget (world_of w) (map meant events)
    → world_of v ≡ run scheme (plan_of w.doc) (world_of w) (map meant events) → events ≡ [] → IsAtRest v
rest_after w v budget events is doc some made ran none =
    let empty : IsCanonical scheme (plan_of w.doc) budget (world_of w) [] = subst (λ es. IsCanonical scheme (plan_of w.doc) budget (world_of w) (map meant es)) none made in
    let same : world_of v ≡ world_of w = ran ∙ ap (λ es. run scheme (plan_of w.doc) (world_of w) (map meant es)) none in
    let there : IsCanonical scheme (plan_of w.doc) budget (world_of v) [] = subst (λ (u : World). IsCanonical scheme (plan_of w.doc) budget u []) (sym same) empty in
    quiet_of v budget is some (subst (λ (d : Doc). IsCanonical scheme (plan_of d) budget (world_of v) []) (sym doc) there)
