-- What has arrived grows with each event: bytes follow, and none is lost.
use Rattle.std.proofs.Common.{◌≡◌, ◌<◌, ℕ, ◌+◌, Bool, true, false, List, [], ◌∷◌, Option, Some, None, slice_get, option_map, length, take, min, map, refl, sym, ◌∙◌, ap, subst, inl, inr, arith}
use Rattle.std.specs.Prelude.{if◌then◌else◌}
use native.Mathlib.Decide.{dec_lt}
use Rattle.ds_model.specs.Lists.{at}
use Rattle.ds_model.specs.Scheme.{Scheme}
use Rattle.ds_model.specs.Plan.{HostPlan, LanePlan, Source, Link, OfLane, lane_plan}
use Rattle.ds_model.specs.Desk.{Ticked, desk_after}
use Rattle.ds_model.specs.World.{Process, Waiting, Worker, Conn, Host, World}
use Rattle.ds_model.specs.ProcessStep.{Ask, Waits, Internal, Put, Admit, TakeFrom, PublicAct, AsksJudgement, ask}
use Rattle.ds_model.specs.WorkerStep.{LaneAsk, WorkerWaits, Lifts, AsksRecheck, lane_ask, rechecked, lifted_after_reply, checked_after_reply, with_frame, still_good}
use Rattle.ds_model.specs.ConnectionStep.{ConnAsk, ConnWaits, ConnInternal, AsksInlet, AsksArrival, PutsPassed, arrive}
use Rattle.ds_model.specs.Step.{perform, step_proc, front_of, perform_lane, step_lane, perform_conn, stream_from, worker_at, stream_of, arrived, ticked}
use Rattle.ds_model.proofs.Places.{at_here, at_other, at_each}
use Rattle.ds_delivery.proofs.Lists.{Grows, grows_self, grows_same, take_grows, take_up}

-- the lanes' streams of a host grow
abbrev pub HostGrows : Host → Host → Type 0
HostGrows x y = (l : ℕ) → Grows (stream_from (slice_get x.workers l)) (stream_from (slice_get y.workers l))

-- and those of a world
abbrev pub WorldGrows : World → World → Type 0
WorldGrows v w = (h l : ℕ) → Grows (stream_from (worker_at (slice_get v.hosts h) l)) (stream_from (worker_at (slice_get w.hosts h) l))

pub world_self : (w : World) → WorldGrows w w
world_self w h l = grows_self (stream_from (worker_at (slice_get w.hosts h) l))

-- after a change of one host
map_grows : (f : Host → Host) (o : Option Host) → ((x : Host) → o ≡ Some x → HostGrows x (f x)) → (l : ℕ) → Grows (stream_from (worker_at o l)) (stream_from (worker_at (option_map f o) l))
map_grows f None g l = grows_self []
map_grows f (Some x) g l = g x refl l

pub at_grows : (w w' : World) (h : ℕ) (f : Host → Host) → w'.hosts ≡ at h f w.hosts → ((x : Host) → slice_get w.hosts h ≡ Some x → HostGrows x (f x)) → WorldGrows w w'
at_grows w w' h f is g = at_each (λ j. (l : ℕ) → Grows (stream_from (worker_at (slice_get w.hosts j) l)) (stream_from (worker_at (slice_get w'.hosts j) l))) h
    (λ l. subst (λ o. Grows (stream_from (worker_at (slice_get w.hosts h) l)) (stream_from (worker_at o l))) (sym (ap (λ xs. slice_get xs h) is ∙ at_here h f w.hosts)) (map_grows f (slice_get w.hosts h) g l))
    (λ j n l. grows_same _ _ (ap (λ o. stream_from (worker_at o l)) (ap (λ xs. slice_get xs j) is ∙ at_other h j f w.hosts n)))

-- by what each actor does

pub proc_grows : (s : Scheme) (plan : HostPlan) (x : Host) (p : ℕ) (o : Option Process) → HostGrows x (step_proc s plan x p o)
proc_grows s plan x p None l = grows_self (stream_from (slice_get x.workers l))
proc_grows s plan x p (Some y) l = go (ask plan p y)
  where
    go : (a : Ask) → Grows (stream_from (slice_get x.workers l)) (stream_from (slice_get (perform s plan x p a).workers l))
    go Waits = grows_self _
    go (Internal next) = grows_self _
    go (Put b mail next) = grows_self _
    go (Admit j m next) = grows_self _
    go (TakeFrom b r slot) = grows_self _
    go (PublicAct act r g) = grows_self _
    go (AsksJudgement m) = grows_self _

frame_grows : (s : Scheme) (plan : LanePlan) (e : Worker) (good : List Waiting) → Grows e.stream (with_frame s plan e good).stream
frame_grows s plan e [] = grows_self e.stream
frame_grows s plan e (m ∷ rest) = (s.frame plan.signing e.leaf (map (λ w. w.message) (m ∷ rest)), refl)

worker_grows : (f : Worker → Worker) → ((e : Worker) → Grows e.stream (f e).stream) → (l : ℕ) (es : List Worker) → (j : ℕ) → Grows (stream_from (slice_get es j)) (stream_from (slice_get (at l f es) j))
worker_grows f g l es = at_each (λ j. Grows (stream_from (slice_get es j)) (stream_from (slice_get (at l f es) j))) l
    (subst (λ o. Grows (stream_from (slice_get es l)) (stream_from o)) (sym (at_here l f es)) (one (slice_get es l)))
    (λ j n. grows_same _ _ (ap stream_from (at_other l j f es n)))
  where
    one : (o : Option Worker) → Grows (stream_from o) (stream_from (option_map f o))
    one None = grows_self []
    one (Some e) = g e

pub lane_grows : (s : Scheme) (plan : HostPlan) (x : Host) (l : ℕ) (o : Option Worker) → HostGrows x (step_lane s plan x l o)
lane_grows s plan x l None = λ j. grows_self (stream_from (slice_get x.workers j))
lane_grows s plan x l (Some e) = go (lane_ask s (lane_plan plan l) e)
  where
    go : (a : LaneAsk) → HostGrows x (perform_lane s plan x l a)
    go WorkerWaits = λ j. grows_self (stream_from (slice_get x.workers j))
    go Lifts = worker_grows (lifted_after_reply (front_of (slice_get x.queues l))) (λ e'. grows_self e'.stream) l x.workers
    go (AsksRecheck hand) = worker_grows (checked_after_reply s (lane_plan plan l) (rechecked s x.desk hand)) (λ e'. frame_grows s (lane_plan plan l) e' (still_good (rechecked s x.desk hand) e'.hand)) l x.workers

pub conn_grows : (s : Scheme) (plan : HostPlan) (x : Host) (y : Conn) (a : ConnAsk) → HostGrows x (perform_conn s plan x y a).host
conn_grows s plan x y ConnWaits l = grows_self _
conn_grows s plan x y (ConnInternal next) l = grows_self _
conn_grows s plan x y (AsksInlet i number fresh stale) l = grows_self _
conn_grows s plan x y (AsksArrival cert m rest) l = grows_self _
conn_grows s plan x y (PutsPassed b mail next) l = grows_self _

pub tick_grows : (plan : HostPlan) (t : ℕ) (x : Host) → HostGrows x (ticked plan t x)
tick_grows plan t x l = go plan.silent
  where
    go : (b : Bool) → Grows (stream_from (slice_get x.workers l)) (stream_from (slice_get (if b then x else record x { desk = desk_after plan.key (Ticked t) x.desk }).workers l))
    go true = grows_self _
    go false = grows_self _

-- of what arrived on a connection

pub arrived_grows : (v w : World) (source : Source) (y z : Conn) → WorldGrows v w → Grows y.link z.link → z.count ≡ y.count → Grows (arrived v source y) (arrived w source z)
arrived_grows v w source y z g link count = subst (λ n. Grows (arrived v source y) (take n (stream_of w source z))) (sym count) (take_grows y.count (stream_of v source y) (stream_of w source z) (stream source))
  where
    stream : (source : Source) → Grows (stream_of v source y) (stream_of w source z)
    stream Link = link
    stream (OfLane h l) = g h l

pub arrive_grows : (v w : World) (source : Source) (n : ℕ) (y : Conn) → w.hosts ≡ v.hosts → Grows (arrived v source y) (arrived w source (arrive (stream_of v source y) n y))
arrive_grows v w source n y same = subst (λ bytes. Grows (arrived v source y) (take (min (length (stream_of v source y)) (y.count + n)) bytes)) (sym (stream source)) (up (stream_of v source y))
  where
    stream : (source : Source) → stream_of w source (record y { count = min (length (stream_of v source y)) (y.count + n) }) ≡ stream_of v source y
    stream Link = refl
    stream (OfLane h l) = ap (λ xs. stream_from (worker_at (slice_get xs h) l)) same

    up : (bytes : List ℕ) → Grows (take y.count bytes) (take (min (length bytes) (y.count + n)) bytes)
    up bytes = go (dec_lt (length bytes) y.count)
      where
        go : Dec (length bytes < y.count) → Grows (take y.count bytes) (take (min (length bytes) (y.count + n)) bytes)
        go (yes lt) = take_up y.count (min (length bytes) (y.count + n)) bytes (inr (omega arith))
        go (no ge) = take_up y.count (min (length bytes) (y.count + n)) bytes (inl (omega arith))
