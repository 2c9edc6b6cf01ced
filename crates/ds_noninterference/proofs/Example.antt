-- The example's two runs meet the premises of the law.
use Rattle.std.proofs.Common.{◌≡◌, ℕ, zero, suc, Bool, true, false, List, [], ◌∷◌, ◌&&◌, Some, None, slice_get, refl, sym, ◌∙◌, ap, inl, inr, arith}
use Rattle.std.specs.Prelude.{Contains}
use Rattle.std.specs.List.{list_all}
use Rattle.ds_cert.specs.declared.delegation.Delegation.{Delegation}
use Rattle.ds_script.specs.declared.op.Op.{Op}
use Rattle.ds_model.specs.Plan.{IsHost, IsLane, OfLane, conn_plan, host_plan}
use Rattle.ds_model.specs.World.{Process, Queue, Worker, Host, World}
use Rattle.ds_model.specs.Setup.{IsSetup}
use Rattle.ds_model.specs.Step.{Event, step}
use Rattle.ds_model.specs.Examples.OneHost.{empty_scheme, a_secret}
use Rattle.ds_noninterference.specs.High.{is_in, high_at, IsTrusted}
use Rattle.ds_noninterference.specs.Observations.{Along}
use Rattle.ds_noninterference.specs.Alike.{Alike, AlikeAt, AlikeWorlds}
use Rattle.ds_noninterference.specs.Premises.{IsScheme, Fits, Obeys, Unforged, NothingForged, IssuesInside}
use Rattle.ds_noninterference.specs.Example.{pair, pair_world, first_script, second_script, first_events, second_events, process, taking, PremisesHold}
use Rattle.ds_noninterference.proofs.Flow.{and_left, and_right}

none_some : {X : Type 0} (x : X) → None ≡ Some x → ⊥
none_some x e = grind arith

some_is : {X : Type 0} (x y : X) → Some x ≡ Some y → x ≡ y
some_is x y e = cc

false_true : false ≡ true → ⊥
false_true e = grind arith

-- nothing was issued

is_none : List Delegation → Bool
is_none [] = true
is_none (d ∷ ds) = false

none_in : (ds : List Delegation) (d : Delegation) → is_none ds ≡ true → Contains ds d → ⊥
unfolding is_none
none_in [] d e (k, lt, is) = grind arith
none_in (x ∷ ds) d e m = grind arith

one_of : {X : Type 0} (test : X → Bool) (xs : List X) (i : ℕ) (x : X) → list_all test xs ≡ true → slice_get xs i ≡ Some x → test x ≡ true
one_of test [] i x a e = absurd (none_some x e)
one_of test (y ∷ xs) zero x a e = ap test (sym (some_is y x e)) ∙ and_left _ _ a
one_of test (y ∷ xs) (suc i) x a e = one_of test xs i x (and_right _ _ a) e

unissued : World → Bool
unissued w = list_all (λ x. is_none x.desk.issued) w.hosts

always : World → List Event → Bool
always w [] = unissued w && true
always w (e ∷ events) = unissued w && always (step empty_scheme pair w e) events

issues : (w : World) → unissued w ≡ true → IssuesInside a_secret (0 ∷ []) pair w
unfolding unissued
issues w u h x d t there m about = absurd (none_in x.desk.issued d (one_of (λ z. is_none z.desk.issued) w.hosts h x u there) m)

all_issues : (w : World) (events : List Event) → always w events ≡ true → Along empty_scheme pair (IssuesInside a_secret (0 ∷ []) pair) w events
unfolding always
all_issues w [] a = (issues w (and_left _ _ a), tt)
all_issues w (e ∷ events) a = (issues w (and_left _ _ a), all_issues (step empty_scheme pair w e) events (and_right _ _ a))

-- nothing is good or read

unforged : (w : World) → NothingForged empty_scheme a_secret (0 ∷ []) pair w
unforged w = record {
  stores = λ g y d there m about good by. absurd (false_true good);
  certs = λ k y lane there source read begun by. absurd (none_some lane read);
  frames = λ k y lane j number messages there source read frame next h l high. absurd (none_some lane read);
}

all_unforged : (w : World) (events : List Event) → Unforged empty_scheme a_secret (0 ∷ []) pair w events
all_unforged w [] = (unforged w, tt)
all_unforged w (e ∷ events) = (unforged w, all_unforged (step empty_scheme pair w e) events)

scheme : IsScheme empty_scheme pair
scheme = record { closed = λ certs moment c inside start more key held. absurd (false_true held); hello_first = λ h l is here rest n. inl refl }

-- the plan has no lane

no_lane_of : (h l : ℕ) → IsLane pair h l → ⊥
no_lane_of zero l is = grind arith
no_lane_of (suc h) l is = grind arith

no_source : (k h l : ℕ) → (conn_plan pair k).source ≡ OfLane h l → ⊥
no_source zero h l e = grind arith
no_source (suc k) h l e = grind arith

fits : Fits pair
fits = record {
  ends = λ k h l e. absurd (no_source k h l e);
  by = λ h l is. absurd (no_lane_of h l is);
  lanes = λ h l g j is is' e n. absurd (no_lane_of h l is);
}

start : (script : List Op) → IsSetup empty_scheme pair (pair_world script)
start script = record { conn_plans = conn_plans; procs = procs; queues = queues; workers = workers; conns = λ k y e. absurd (none_some y e) }
  where
    conn_plans : (k h l : ℕ) → (conn_plan pair k).source ≡ OfLane h l → IsLane pair h l
    conn_plans k h l e = absurd (grind arith)

    procs : (h : ℕ) (x : Host) (p : ℕ) (y : Process) → slice_get (pair_world script).hosts h ≡ Some x → slice_get x.procs p ≡ Some y → y.hand ≡ None
    procs zero x zero y e f = sym (ap (λ z. z.hand) (some_is _ y (ap (λ z. slice_get z.procs 0) (some_is _ x e) ∙ f)))
    procs zero x (suc zero) y e f = sym (ap (λ z. z.hand) (some_is _ y (ap (λ z. slice_get z.procs 1) (some_is _ x e) ∙ f)))
    procs zero x (suc (suc p)) y e f = absurd (none_some y (ap (λ z. slice_get z.procs (suc (suc p))) (some_is _ x e) ∙ f))
    procs (suc h) x p y e f = absurd (none_some x e)

    queues : (h : ℕ) (x : Host) (l : ℕ) (q : Queue) → slice_get (pair_world script).hosts h ≡ Some x → slice_get x.queues l ≡ Some q → q ≡ []
    queues zero x l q e f = absurd (none_some q (ap (λ z. slice_get z.queues l) (some_is _ x e) ∙ f))
    queues (suc h) x l q e f = absurd (none_some x e)

    workers : (h : ℕ) (x : Host) (l : ℕ) (w : Worker) → slice_get (pair_world script).hosts h ≡ Some x → slice_get x.workers l ≡ Some w → (w.hand ≡ []) × (w.stream ≡ [])
    workers zero x l w e f = absurd (none_some w (ap (λ z. slice_get z.workers l) (some_is _ x e) ∙ f))
    workers (suc h) x l w e f = absurd (none_some x e)

obeys : (w : World) (events : List Event) → always w events ≡ true → Obeys empty_scheme a_secret (0 ∷ []) pair w events
obeys w events a = record { run = run; creator = refl; alone = alone; issues = all_issues w events a }
  where
    run : (h : ℕ) → is_in (0 ∷ []) h ≡ true → IsHost pair h × ((host_plan pair h).silent ≡ false)
    run zero e = (omega arith, refl)
    run (suc h) e = absurd (grind arith)

    alone : (h : ℕ) → IsHost pair h → IsTrusted (0 ∷ []) pair (host_plan pair h).key → is_in (0 ∷ []) h ≡ true
    alone zero is e = refl
    alone (suc h) is e = absurd (omega arith)

abbrev procs_of : List Op → List Process
procs_of script = process script (a_secret ∷ []) ∷ process taking [] ∷ []

same_procs : (p : ℕ) → Alike (high_at a_secret true (slice_get (procs_of first_script) p)) (high_at a_secret true (slice_get (procs_of second_script) p)) (slice_get (procs_of first_script) p) (slice_get (procs_of second_script) p)
same_procs zero = inr (refl, refl)
same_procs (suc p) = inl refl

alike_at : (h : ℕ) → AlikeAt a_secret (0 ∷ []) pair h (slice_get (pair_world first_script).hosts h) (slice_get (pair_world second_script).hosts h)
alike_at zero = record { desk = refl; procs = same_procs; boxes = λ b. inl refl; queues = λ l. inl refl; workers = λ l. inl refl; logs = λ l. inl refl; inlets = λ i. inl refl }
alike_at (suc h) = tt

alike : AlikeWorlds a_secret (0 ∷ []) pair (pair_world first_script) (pair_world second_script)
alike = record { hosts = alike_at; conns = λ k. inl refl }

pub met : PremisesHold
unfolding always unissued is_none Rattle.ds_label.specs.Flow.flows Rattle.ds_label.specs.Flow.union
met = (
  scheme,
  record {
    secret = refl;
    fits = fits;
    start_one = start first_script;
    start_two = start second_script;
    agree = record { start = alike; same_marks = refl };
    obeys_one = obeys (pair_world first_script) first_events refl;
    obeys_two = obeys (pair_world second_script) second_events refl;
    unforged_one = all_unforged (pair_world first_script) first_events;
    unforged_two = all_unforged (pair_world second_script) second_events;
  },
)
