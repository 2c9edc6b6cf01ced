-- Each event makes at most one entry in one object, where it may stand, and changes objects by that alone.
use Rattle.std.proofs.Common.{◌≡◌, ℕ, Bool, true, false, cond, [], ◌∷◌, Option, Some, None, slice_get, option_map, refl, sym, ◌∙◌, ap, ap₂, arith, eqb, eqb-true, eq-eqb, ne_eqb}
use Rattle.std.specs.Prelude.{if◌then◌else◌, ◌≤◌, ◌||◌, min, max, nat_le, length}
use Rattle.std.proofs.lemmas.Bool.{leb-true}
use native.Mathlib.Decide.{ℕ_discrete}
use Rattle.ds_label.specs.declared.category.Category.{Category}
use Rattle.ds_label.specs.declared.category.PubKey.{PubKey}
use Rattle.ds_model.specs.Lists.{at}
use Rattle.ds_model.specs.Scheme.{Scheme}
use Rattle.ds_model.specs.Plan.{HostPlan, Plan, host_plan, conn_plan, lane_plan}
use Rattle.ds_model.specs.Mailbox.{put_entry, box_enter, put, took, took_with, oldest}
use Rattle.ds_model.specs.Lane.{Lifted, admit_entry, lane_after, admit, lifted, frame_limit}
use Rattle.ds_model.specs.Inlet.{Inlet, number_entry, inlet_after, numbered}
use Rattle.ds_model.specs.Desk.{Ticked, desk_after}
use Rattle.ds_model.specs.World.{Process, Mail, Mailbox, Waiting, Queue, Worker, Conn, Host, World}
use Rattle.ds_model.specs.ProcessStep.{Ask, Waits, Internal, Put, Admit, TakeFrom, PublicAct, AsksJudgement, ask}
use Rattle.ds_model.specs.WorkerStep.{LaneAsk, WorkerWaits, Lifts, AsksRecheck, lane_ask}
use Rattle.ds_model.specs.ConnectionStep.{ConnAsk, ConnWaits, ConnInternal, AsksInlet, AsksArrival, PutsPassed, accept, deliver}
use Rattle.ds_model.specs.Step.{Event, Step, Frame, Arrive, Accept, Deliver, Tick, Inject, Copy, arrived, perform, step_proc, perform_lane, step_lane, perform_conn, step_conn, ticked, on_host, resolve, happens, step}
use Rattle.ds_model.specs.Access.{Access, NoAccess, InDesk, put_access, take_access, take_access_in, admit_access, lift_access, lift_access_in, number_access, access_of_ask, access_of_lane_ask, access_of_conn_ask, access_of_proc, access_of_lane, access_of_conn, access_of_clock, access_at, access_in, access, Objects, objects, objects_at, objects_after}
use Rattle.ds_model.proofs.Places.{at_here, at_other, at_alike, at_still, none_some, some_is}

put_is : (k : PubKey) (b room : ℕ) (m : Mail Category) (o : Option Mailbox) (x : Objects) → slice_get x.boxes b ≡ o → record x { boxes = at b (put room m) x.boxes } ≡ objects_after k (put_access b room m o) x
put_is k b room m None x e = ap (λ bs. record x { boxes = bs }) (at_still b (put room m) x.boxes (λ y q. absurd (none_some y (sym e ∙ q))))
put_is k b room m (Some z) x e = ap (λ bs. record x { boxes = bs }) (at_alike b (put room m) _ x.boxes (λ y q. ap (λ u. box_enter (put_entry room m u.waiting) y) (some_is y z (sym q ∙ e))))

took_is : (k : PubKey) (b : ℕ) (z : Mailbox) (o : Option (Mail Category)) (x : Objects) → slice_get x.boxes b ≡ Some z → oldest z ≡ o → record x { boxes = at b took x.boxes } ≡ objects_after k (take_access b o) x
took_is k b z None x e q = ap (λ bs. record x { boxes = bs }) (at_still b took x.boxes (λ y r. ap (took_with y) (ap oldest (some_is y z (sym r ∙ e)) ∙ q)))
took_is k b z (Some m) x e q = ap (λ bs. record x { boxes = bs }) (at_alike b took _ x.boxes (λ y r. ap (took_with y) (ap oldest (some_is y z (sym r ∙ e)) ∙ q)))

take_is : (k : PubKey) (b : ℕ) (o : Option Mailbox) (x : Objects) → slice_get x.boxes b ≡ o → record x { boxes = at b took x.boxes } ≡ objects_after k (take_access_in b o) x
take_is k b None x e = ap (λ bs. record x { boxes = bs }) (at_still b took x.boxes (λ y q. absurd (none_some y (sym e ∙ q))))
take_is k b (Some z) x e = took_is k b z (oldest z) x e refl

admit_is : (k : PubKey) (l room : ℕ) (m : Waiting) (o : Option Queue) (x : Objects) → slice_get x.queues l ≡ o → record x { queues = at l (admit room m) x.queues } ≡ objects_after k (admit_access l room m o) x
admit_is k l room m None x e = ap (λ qs. record x { queues = qs }) (at_still l (admit room m) x.queues (λ y q. absurd (none_some y (sym e ∙ q))))
admit_is k l room m (Some z) x e = ap (λ qs. record x { queues = qs }) (at_alike l (admit room m) _ x.queues (λ y q. ap (λ u. lane_after (admit_entry room m u) y) (some_is y z (sym q ∙ e))))

lifts_is : (k : PubKey) (l : ℕ) (z : Queue) (x : Objects) → slice_get x.queues l ≡ Some z → record x { queues = at l lifted x.queues } ≡ objects_after k (lift_access l z) x
lifts_is k l [] x e = ap (λ qs. record x { queues = qs }) (at_still l lifted x.queues (λ y r. ap lifted (some_is y [] (sym r ∙ e)) ∙ sym (some_is y [] (sym r ∙ e))))
lifts_is k l (m ∷ ms) x e = ap (λ qs. record x { queues = qs }) (at_alike l lifted (lane_after (Lifted (min frame_limit (length (m ∷ ms))))) x.queues
    (λ y r. let is : y ≡ m ∷ ms = some_is y (m ∷ ms) (sym r ∙ e) in ap lifted is ∙ ap (lane_after (Lifted (min frame_limit (length (m ∷ ms))))) (sym is)))

lift_is : (k : PubKey) (l : ℕ) (o : Option Queue) (x : Objects) → slice_get x.queues l ≡ o → record x { queues = at l lifted x.queues } ≡ objects_after k (lift_access_in l o) x
lift_is k l None x e = ap (λ qs. record x { queues = qs }) (at_still l lifted x.queues (λ y q. absurd (none_some y (sym e ∙ q))))
lift_is k l (Some z) x e = lifts_is k l z x e

number_is : (k : PubKey) (i n : ℕ) (o : Option Inlet) (x : Objects) → slice_get x.inlets i ≡ o → record x { inlets = at i (numbered n) x.inlets } ≡ objects_after k (number_access i n o) x
number_is k i n None x e = ap (λ qs. record x { inlets = qs }) (at_still i (numbered n) x.inlets (λ y q. absurd (none_some y (sym e ∙ q))))
number_is k i n (Some z) x e = ap (λ qs. record x { inlets = qs }) (at_alike i (numbered n) _ x.inlets (λ y q. ap (λ u. inlet_after (number_entry n u) y) (some_is y z (sym q ∙ e))))

module _ (s : Scheme) (plan : HostPlan) (x : Host) where
  ask_touch : (p : ℕ) (a : Ask) → objects (perform s plan x p a) ≡ objects_after plan.key (access_of_ask s plan x p a) (objects x)
  ask_touch p Waits = refl
  ask_touch p (Internal next) = refl
  ask_touch p (Put b m next) = put_is plan.key b _ m _ (objects x) refl
  ask_touch p (Admit l m next) = admit_is plan.key l _ (record { sender = p; message = m }) _ (objects x) refl
  ask_touch p (TakeFrom b reg slot) = take_is plan.key b _ (objects x) refl
  ask_touch p (PublicAct act reg host) = refl
  ask_touch p (AsksJudgement m) = refl

  lane_touch : (l : ℕ) (a : LaneAsk) → objects (perform_lane s plan x l a) ≡ objects_after plan.key (access_of_lane_ask x l a) (objects x)
  lane_touch l WorkerWaits = refl
  lane_touch l Lifts = lift_is plan.key l _ (objects x) refl
  lane_touch l (AsksRecheck hand) = refl

  conn_touch : (y : Conn) (a : ConnAsk) → objects (perform_conn s plan x y a).host ≡ objects_after plan.key (access_of_conn_ask plan x a) (objects x)
  conn_touch y ConnWaits = refl
  conn_touch y (ConnInternal next) = refl
  conn_touch y (AsksInlet i n fresh stale) = number_is plan.key i n _ (objects x) refl
  conn_touch y (AsksArrival lane m rest) = refl
  conn_touch y (PutsPassed b m next) = put_is plan.key b _ m _ (objects x) refl

  proc_touch : (p : ℕ) (o : Option Process) → objects (step_proc s plan x p o) ≡ objects_after plan.key (access_of_proc s plan x p o) (objects x)
  proc_touch p None = refl
  proc_touch p (Some y) = ask_touch p (ask plan p y)

  worker_touch : (l : ℕ) (o : Option Worker) → objects (step_lane s plan x l o) ≡ objects_after plan.key (access_of_lane s plan x l o) (objects x)
  worker_touch l None = refl
  worker_touch l (Some e) = lane_touch l (lane_ask s (lane_plan plan l) e)

-- a tick to a moment that isn't above the desk's
pub not_raised : (m t : ℕ) → nat_le t m ≡ true → max m t ≡ m
not_raised m t e = let le : t ≤ m = leb-true t m e in omega (arith, le)

clock_touch : (plan : HostPlan) (t : ℕ) (x : Host) → objects (ticked plan t x) ≡ objects_after plan.key (access_of_clock plan x.desk.moment t) (objects x)
clock_touch plan t x = go plan.silent (nat_le t x.desk.moment) refl
  where
    go : (z b : Bool) → nat_le t x.desk.moment ≡ b → objects (if z then x else record x { desk = desk_after plan.key (Ticked t) x.desk }) ≡ objects_after plan.key (if z || b then NoAccess else InDesk (Ticked t)) (objects x)
    go true b e = refl
    go false false e = refl
    go false true e = ap (λ n. record (objects x) { desk = record x.desk { moment = n } }) (not_raised x.desk.moment t e)

-- on whole worlds

map_map : (k : PubKey) (f : Host → Host) (t : Host → Access) (o : Option Host) → ((x : Host) → o ≡ Some x → objects (f x) ≡ objects_after k (t x) (objects x)) → option_map objects (option_map f o) ≡ option_map (λ x. objects_after k (t x) (objects x)) o
map_map k f t None h = refl
map_map k f t (Some x) h = ap Some (h x refl)

module _ (s : Scheme) (plan : Plan) (w : World) where
  host_touch : (g : ℕ) (f : Host → Host) (t : ℕ → Host → Access) → ((x : Host) → slice_get w.hosts g ≡ Some x → objects (f x) ≡ objects_after (host_plan plan g).key (t g x) (objects x)) →
      (h : ℕ) (o : Option Host) → slice_get w.hosts h ≡ o → objects_at (on_host g f w) h ≡ option_map (λ x. objects_after (host_plan plan h).key (cond (eqb h g) (t h x) NoAccess) (objects x)) o
  host_touch g f t k h o e = go (ℕ_discrete h g)
    where
      here : (o' : Option Host) → slice_get w.hosts g ≡ o' → option_map objects (option_map f o') ≡ option_map (λ x. objects_after (host_plan plan g).key (t g x) (objects x)) o'
      here o' q = map_map (host_plan plan g).key f (t g) o' (λ x r. k x (q ∙ r))

      drop_test : (b : Bool) → b ≡ true → (o' : Option Host) → option_map (λ x. objects_after (host_plan plan h).key (t h x) (objects x)) o' ≡ option_map (λ x. objects_after (host_plan plan h).key (cond b (t h x) NoAccess) (objects x)) o'
      drop_test true r o' = refl
      drop_test false r o' = absurd (grind arith)

      no_test : (b : Bool) → b ≡ false → (o' : Option Host) → option_map objects o' ≡ option_map (λ x. objects_after (host_plan plan h).key (cond b (t h x) NoAccess) (objects x)) o'
      no_test false r o' = refl
      no_test true r o' = absurd (grind arith)

      go : Dec (h ≡ g) → objects_at (on_host g f w) h ≡ option_map (λ x. objects_after (host_plan plan h).key (cond (eqb h g) (t h x) NoAccess) (objects x)) o
      go (yes is) = ap (λ j. option_map objects (slice_get (at g f w.hosts) j)) is ∙ ap (option_map objects) (at_here g f w.hosts) ∙ here (slice_get w.hosts g) refl
          ∙ ap₂ (λ j o'. option_map (λ x. objects_after (host_plan plan j).key (t j x) (objects x)) o') (sym is) (ap (slice_get w.hosts) (sym is) ∙ e) ∙ drop_test (eqb h g) (eq-eqb h g is) o
      go (no n) = ap (option_map objects) (at_other g h f w.hosts n ∙ e) ∙ no_test (eqb h g) (ne_eqb h g n) o

  still_touch : (h : ℕ) (o : Option Host) → slice_get w.hosts h ≡ o → objects_at w h ≡ option_map (λ x. objects_after (host_plan plan h).key NoAccess (objects x)) o
  still_touch h None e = ap (option_map objects) e
  still_touch h (Some x) e = ap (option_map objects) e

  test_still : (h : ℕ) (b : Bool) (o : Option Host) → option_map (λ x. objects_after (host_plan plan h).key NoAccess (objects x)) o ≡ option_map (λ x. objects_after (host_plan plan h).key (cond b NoAccess NoAccess) (objects x)) o
  test_still h true o = refl
  test_still h false o = refl

  no_host : (r h : ℕ) (t : Host → Access) (o : Option Host) → slice_get w.hosts r ≡ None → slice_get w.hosts h ≡ o → objects_at w h ≡ option_map (λ x. objects_after (host_plan plan h).key (cond (eqb h r) (t x) NoAccess) (objects x)) o
  no_host r h t None e q = ap (option_map objects) q
  no_host r h t (Some x) e q = ap (option_map objects) q ∙ go (eqb h r) refl
    where
      go : (b : Bool) → eqb h r ≡ b → Some (objects x) ≡ option_map (λ z. objects_after (host_plan plan h).key (cond b (t z) NoAccess) (objects z)) (Some x)
      go false r' = refl
      go true r' = absurd (none_some x (sym e ∙ (ap (slice_get w.hosts) (sym (eqb-true h r r')) ∙ q)))

  ends_touch : (k : ℕ) (asks : Conn → ConnAsk) (asks' : ℕ → Conn → ConnAsk) → asks' (conn_plan plan k).host ≡ asks → (o : Option Host) (q : Option Conn) → slice_get w.hosts (conn_plan plan k).host ≡ o → (h : ℕ) (u : Option Host) → slice_get w.hosts h ≡ u →
      objects_at (step_conn s plan w (conn_plan plan k).host k asks o q) h ≡ option_map (λ x. objects_after (host_plan plan h).key (cond (eqb h (conn_plan plan k).host) (access_of_conn (host_plan plan h) (asks' h) x q) NoAccess) (objects x)) u
  ends_touch k asks asks' same (Some x) (Some y) e h u q = host_touch (conn_plan plan k).host (λ _. (perform_conn s (host_plan plan (conn_plan plan k).host) x y (asks y)).host) (λ g z. access_of_conn (host_plan plan g) (asks' g) z (Some y))
      (λ z r. conn_touch s (host_plan plan (conn_plan plan k).host) x y (asks y)
      ∙ ap₂ (λ z' a. objects_after (host_plan plan (conn_plan plan k).host).key (access_of_conn (host_plan plan (conn_plan plan k).host) a z' (Some y)) (objects z')) (some_is x z (sym e ∙ r)) (sym same)) h u q
  ends_touch k asks asks' same None q e h u r = no_host (conn_plan plan k).host h _ u e r
  ends_touch k asks asks' same (Some x) None e h u r = still_touch h u r ∙ test_still h (eqb h (conn_plan plan k).host) u

  event_touch : (e : Event) (h : ℕ) (o : Option Host) → slice_get w.hosts h ≡ o → objects_at (happens s plan w e) h ≡ option_map (λ x. objects_after (host_plan plan h).key (access_at s plan w e h x) (objects x)) o
  event_touch (Step g p) h o e = host_touch g _ (λ j x. access_of_proc s (host_plan plan j) x p (slice_get x.procs p)) (λ x q. proc_touch s (host_plan plan g) x p (slice_get x.procs p)) h o e
  event_touch (Frame g l) h o e = host_touch g _ (λ j x. access_of_lane s (host_plan plan j) x l (slice_get x.workers l)) (λ x q. worker_touch s (host_plan plan g) x l (slice_get x.workers l)) h o e
  event_touch (Accept k) h o e = ends_touch k _ (λ j conn. accept s (host_plan plan j) conn (arrived w (conn_plan plan k).source conn)) refl (slice_get w.hosts (conn_plan plan k).host) (slice_get w.conns k) refl h o e
  event_touch (Deliver k) h o e = ends_touch k _ (λ j conn. deliver s (host_plan plan j) conn (arrived w (conn_plan plan k).source conn)) refl (slice_get w.hosts (conn_plan plan k).host) (slice_get w.conns k) refl h o e
  event_touch (Tick g t) h o e = host_touch g _ (λ j x. access_of_clock (host_plan plan j) x.desk.moment t) (λ x q. clock_touch (host_plan plan g) t x) h o e
  event_touch (Arrive k n) h o e = still_touch h o e
  event_touch (Inject k bytes) h o e = still_touch h o e
  event_touch (Copy k j from until) h o e = still_touch h o e

  map_touch : (e : Event) (h : ℕ) (o : Option Host) → option_map (λ x. objects_after (host_plan plan h).key (access_at s plan w e h x) (objects x)) o ≡ option_map (objects_after (host_plan plan h).key (access_in s plan w e h o)) (option_map objects o)
  map_touch e h None = refl
  map_touch e h (Some x) = refl

  -- an event changes the shared objects of a host by what it touches there
  pub step_touch : (e : Event) (h : ℕ) → objects_at (step s plan w e) h ≡ option_map (objects_after (host_plan plan h).key (access s plan w e h)) (objects_at w h)
  step_touch e h = event_touch (resolve plan w e) h (slice_get w.hosts h) refl ∙ map_touch (resolve plan w e) h (slice_get w.hosts h)
