-- A change of one lane.
use Rattle.std.proofs.Common.{◌≡◌, ℕ, zero, suc, ◌+◌, ◌<◌, Bool, true, false, List, [], ◌∷◌, ◌++◌, Some, None, length, slice_get, option_map, refl, sym, ap, ◌∙◌, subst, arith}
use Rattle.std.specs.Prelude.{◌≢◌, map, min, take, drop, nat_lt, Option, if◌then◌else◌}
use Rattle.std.specs.List.{flat_map}
use Rattle.std.proofs.lemmas.Option.{slice_get-map, get_or_from_slice_get}
use Rattle.std.proofs.lemmas.List.{take-map, drop-map, length-map, append-nil}
use Rattle.std.proofs.lemmas.Grind.{flat_map-append}
use Rattle.std.proofs.lemmas.List.Elements.{All-push}
use Rattle.lms_state.specs.Signers.{leaves_of}
use Rattle.ds_cert.specs.declared.lane.LaneCert.{LaneCert}
use Rattle.ds_script.specs.declared.actor.Actor.{Actor}
use Rattle.ds_msg.specs.declared.message.Message.{Message}
use Rattle.ds_model.specs.Lists.{at}
use Rattle.ds_model.specs.Plan.{LanePlan, no_lane, lane_plan}
use Rattle.ds_model.specs.World.{Worker, Host, Waiting as PlainWaiting}
use Rattle.ds_model.specs.Lane.{Lifted, lifted, front, frame_limit}
use Rattle.ds_model.specs.WorkerStep.{WorkerWaits, Lifts, lane_ask, lifted_after_reply}
use Rattle.ds_model.specs.Step.{front_of, perform_lane, step_lane}
use Rattle.ds_model.specs.Access.{Access, NoAccess, access_of_lane, access_of_lane_ask, lift_access, lift_access_in}
use Rattle.ds_model.proofs.Places.{at_here, at_still}
use Rattle.ds_scheme.specs.TheScheme.{scheme}
use Rattle.ds_scheme.proofs.Parts.{same_lane_leaf}
use Rattle.ds_lane.specs.declared.batch.Waiting.{Waiting}
use Rattle.ds_lane.specs.declared.entry.LaneEntry.{LaneEntry}
use Rattle.ds_lane.specs.Lanes.{IsOn, entry_of, lift_entry}
use Rattle.ds_lane.proofs.Grows.{grown_last}
use Rattle.ds_exporter.specs.HostStates.{HostLane, HostState}
use Rattle.ds_exporter.specs.Merging.{plain_waiting, entry_lines, line_of, merged, worker_stamped}
use Rattle.ds_exporter.specs.PlainHosts.{plain_queue, plain_worker, log_of, host_of, site_of, plan_of_lane}
use Rattle.ds_exporter.specs.Lifting.{lifted_from, lifted_lane}
use Rattle.ds_exporter.specs.Conditions.{IsFit, IsLaneOf, HasLane, lane_actor}
use Rattle.ds_exporter.specs.Entering.{Enters, frame_access, lane_change}
use Rattle.ds_exporter.specs.Stamping.{IsBefore, IsLaneBefore}
use Rattle.ds_exporter.proofs.Entering.{enters_by, enters_lane, enters_same, worker_is}
use Rattle.ds_exporter.proofs.Places.{all_at, all_at_to, pairs_at, any_at, map_over_at, map_kept_at, length_at, seen_alike, there_is}
use Rattle.ds_exporter.proofs.Stamps.{lane_more, below_more}

-- what a lane keeps of itself in a change: its certificates, its worker's actor and key, and its room
pub record Keeps (l m : HostLane) : Type 0 where
  pub cert : m.lane.cert ≡ l.lane.cert
  pub worker_cert : m.worker.cert ≡ l.worker.cert
  pub who : m.worker.who ≡ l.worker.who
  pub planned : plan_of_lane m ≡ plan_of_lane l

abbrev cert_of : HostLane → LaneCert
cert_of l = l.lane.cert

abbrev actor_of : HostLane → Actor
actor_of l = l.worker.who

abbrev are_two : LaneCert → LaneCert → Type 0
are_two a b = a.receiver ≡ b.receiver → a.label ≢ b.label

abbrev takes : Message → LaneCert → Type 0
takes m cert = IsOn cert m

abbrev pub with_lane : ℕ → (HostLane → HostLane) → HostState → HostState
with_lane p f e = record e { lanes = at p f e.lanes }

has_lane : (p : ℕ) (f : HostLane → HostLane) (lanes : List HostLane) → ((l : HostLane) → slice_get lanes p ≡ Some l → Keeps l (f l)) → (m : Option Message) → HasLane lanes m → HasLane (at p f lanes) m
has_lane p f lanes keeps None h = h
has_lane p f lanes keeps (Some m) h = (any_at (takes m) cert_of p f lanes (λ l e. (keeps l e).cert) h.0, h.1)

pub fits_lane : (e : HostState) (p : ℕ) (f : HostLane → HostLane) → IsFit e → ((l : HostLane) → slice_get e.lanes p ≡ Some l → Keeps l (f l)) → IsFit (with_lane p f e)
fits_lane e p f fit keeps = record {
  desk = fit.desk;
  place = fit.place;
  few = fit.few;
  slots = fit.slots;
  lanes = pairs_at are_two cert_of p f e.lanes (λ l h. (keeps l h).cert) fit.lanes;
  inlets = fit.inlets;
  owners = fit.owners;
  scripts = fit.scripts;
  lane_actors = λ place d within. seen_alike actor_of p f e.lanes place d (λ l h. (keeps l h).who) ∙ fit.lane_actors place d (subst (λ n. place < n) (length_at p f e.lanes) within);
  conn_actors = fit.conn_actors;
  order = fit.order;
  certs = all_at (IsLaneOf e.desk.here) p f e.lanes (λ l h is. record { one = (keeps l h).worker_cert ∙ (is.one ∙ sym (keeps l h).cert); exporter = ap (λ (c : LaneCert). c.exporter) (keeps l h).cert ∙ is.exporter }) fit.certs;
  conns = fit.conns;
  named_procs = fit.named_procs;
  named_boxes = fit.named_boxes;
  named_conns = fit.named_conns;
  usable = fit.usable;
  hands = λ k d within. has_lane p f e.lanes keeps _ (fit.hands k d within);
  going = fit.going;
  passed = fit.passed;
  hellos = fit.hellos;
}

pub plan_lane : (e : HostState) (p : ℕ) (f : HostLane → HostLane) → ((l : HostLane) → slice_get e.lanes p ≡ Some l → Keeps l (f l)) → site_of (with_lane p f e) ≡ site_of e
plan_lane e p f keeps = ap (λ (lanes : List LanePlan). record (site_of e) { lanes = lanes }) (map_kept_at plan_of_lane p f e.lanes (λ l h. (keeps l h).planned))

pub below_lane : (n : ℕ) (e : HostState) (p : ℕ) (f : HostLane → HostLane) → ((l : HostLane) → slice_get e.lanes p ≡ Some l → IsLaneBefore n l → IsLaneBefore (n + 1) (f l)) → IsBefore n e → IsBefore (n + 1) (with_lane p f e)
below_lane n e p f step b =
    let more = below_more n e b in
    record { desk = more.desk; boxes = more.boxes; lanes = all_at_to (IsLaneBefore n) (IsLaneBefore (n + 1)) p f e.lanes (lane_more n) step b.lanes; inlets = more.inlets }

-- A LIFT

-- by cases: what a fact needs where messages are lifted, and where none is
lift_cases : (P : HostLane → Type 0) (stamp : ℕ) (l : HostLane) → P l → ((w : Waiting) (waiting : List Waiting) → l.lane.waiting ≡ w ∷ waiting → P (lifted_from stamp l (w ∷ waiting))) → P (lifted_lane stamp l)
lift_cases P stamp l still lifts = ready (nat_lt l.worker.signing.next (leaves_of l.worker.signing.key))
  where
    waits : (waiting : List Waiting) → l.lane.waiting ≡ waiting → P (lifted_from stamp l waiting)
    waits [] e = still
    waits (w ∷ waiting) e = lifts w waiting e

    ready : (b : Bool) → P (if b then lifted_from stamp l l.lane.waiting else l)
    ready true = waits l.lane.waiting refl
    ready false = still

pub keeps_lifted : (stamp : ℕ) (l : HostLane) → Keeps l (lifted_lane stamp l)
keeps_lifted stamp l = lift_cases (Keeps l) stamp l (record { cert = refl; worker_cert = refl; who = refl; planned = refl }) (λ w waiting e. record { cert = refl; worker_cert = refl; who = refl; planned = refl })

abbrev is_below : ℕ → LaneEntry → Type 0
is_below n entry = entry.stamp < n

pub this_below : (n : ℕ) → n < n + 1
this_below n = omega arith

pub below_lifted : (stamp : ℕ) (l : HostLane) → IsLaneBefore stamp l → IsLaneBefore (stamp + 1) (lifted_lane stamp l)
below_lifted stamp l b = lift_cases (IsLaneBefore (stamp + 1)) stamp l (lane_more stamp l b)
    (λ w waiting e. record {
      last = subst (λ n. n < stamp + 1) (grown_last l.lane stamp l.worker.who (lift_entry (w ∷ waiting))) (this_below stamp);
      senders = All-push (is_below (stamp + 1)) l.lane.history (entry_of stamp l.worker.who (lift_entry (w ∷ waiting))) (lane_more stamp l b).senders (this_below stamp);
      worker = (lane_more stamp l b).worker;
    })

log_lifted : (stamp : ℕ) (l : HostLane) → log_of (lifted_lane stamp l) ≡ log_of l
log_lifted stamp l = lift_cases (λ m. log_of m ≡ log_of l) stamp l refl
    (λ w waiting e. ap (λ lines. map line_of (merged lines (map worker_stamped l.worker.entries)))
    (flat_map-append entry_lines l.lane.history (entry_of stamp l.worker.who (lift_entry (w ∷ waiting)) ∷ []) ∙ append-nil (flat_map entry_lines l.lane.history)))

queue_from : (stamp : ℕ) (l : HostLane) (waiting : List Waiting) → l.lane.waiting ≡ waiting → plain_queue (lifted_from stamp l waiting) ≡ lifted (map plain_waiting waiting)
queue_from stamp l [] e = ap (map plain_waiting) e
queue_from stamp l (w ∷ waiting) e =
    ap (λ ws. map plain_waiting (drop (min frame_limit (length (w ∷ waiting))) ws)) e
    ∙ (sym (drop-map plain_waiting (min frame_limit (length (w ∷ waiting))) (w ∷ waiting))
    ∙ ap (λ n. drop (min frame_limit n) (map plain_waiting (w ∷ waiting))) (sym (length-map (w ∷ waiting) plain_waiting)))

front_map : (waiting : List Waiting) → map plain_waiting (front waiting) ≡ front (map plain_waiting waiting)
front_map waiting =
    sym (take-map plain_waiting (min frame_limit (length waiting)) waiting)
    ∙ ap (λ n. take (min frame_limit n) (map plain_waiting waiting)) (sym (length-map waiting plain_waiting))

worker_from : (stamp : ℕ) (l : HostLane) (waiting : List Waiting) → l.worker.hand ≡ [] → plain_worker (lifted_from stamp l waiting) ≡ lifted_after_reply (front (map plain_waiting waiting)) (plain_worker l)
worker_from stamp l [] e = ap (λ hand. record (plain_worker l) { hand = map plain_waiting hand }) e
worker_from stamp l (w ∷ waiting) e = ap (λ hand. record (plain_worker l) { hand = hand }) (front_map (w ∷ waiting))

none_cons : (x : Waiting) (xs : List Waiting) → x ∷ xs ≡ [] → ⊥
none_cons x xs e = grind arith

front_some : (w : Waiting) (waiting : List Waiting) → front (w ∷ waiting) ≡ [] → ⊥
front_some w waiting = go (min frame_limit (length (w ∷ waiting))) (omega arith)
  where
    go : (k : ℕ) → 0 < k → take k (w ∷ waiting) ≡ [] → ⊥
    go zero p h = omega (arith, p)
    go (suc k) p h = none_cons w (take k waiting) h

-- the host after a lift, by whether a leaf is left
module _ (e : HostState) (p : ℕ) (l : HostLane) (stands : slice_get e.lanes p ≡ Some l) (empty : l.worker.hand ≡ []) where
  abbrev asked : Bool → Host
  asked ready = perform_lane scheme (site_of e) (host_of e) p (if ready then Lifts else WorkerWaits)

  only : (m : HostLane) → slice_get e.lanes p ≡ Some m → m ≡ l
  only m h = some_is m l (sym h ∙ stands)
    where
      some_is : {X : Type 0} (x y : X) → Some x ≡ Some y → x ≡ y
      some_is x y q = cc

  queue_at : slice_get (map plain_queue e.lanes) p ≡ Some (plain_queue l)
  queue_at = slice_get-map plain_queue e.lanes p ∙ ap (option_map plain_queue) stands

  lifted_host : (stamp : ℕ) (ready : Bool) → nat_lt l.worker.signing.next (leaves_of l.worker.signing.key) ≡ ready → host_of (with_lane p (lifted_lane stamp) e) ≡ asked ready
  lifted_host stamp true is =
      let queues = map_over_at plain_queue p (lifted_lane stamp) lifted e.lanes (λ m h. subst (λ (x : HostLane). plain_queue (lifted_lane stamp x) ≡ lifted (plain_queue x)) (sym (only m h))
      (ap (λ b. plain_queue (if b then lifted_from stamp l l.lane.waiting else l)) is ∙ queue_from stamp l l.lane.waiting refl)) in
      let workers = map_over_at plain_worker p (lifted_lane stamp) (lifted_after_reply (front (plain_queue l))) e.lanes (λ m h. subst (λ (x : HostLane). plain_worker (lifted_lane stamp x) ≡ lifted_after_reply (front (plain_queue l)) (plain_worker x)) (sym (only m h))
      (ap (λ b. plain_worker (if b then lifted_from stamp l l.lane.waiting else l)) is ∙ worker_from stamp l l.lane.waiting empty)) in
      let told = ap (λ o. at p (lifted_after_reply (front_of o)) (map plain_worker e.lanes)) (sym queue_at) in
      let logs = map_kept_at log_of p (lifted_lane stamp) e.lanes (λ m h. log_lifted stamp m) in
      λ i. record (host_of e) { queues = queues i; workers = (workers ∙ told) i; logs = logs i }
  lifted_host stamp false is =
      ap (λ (lanes : List HostLane). host_of (record e { lanes = lanes })) (at_still p (lifted_lane stamp) e.lanes (λ m h. subst (λ (x : HostLane). lifted_lane stamp x ≡ x) (sym (only m h)) (ap (λ b. if b then lifted_from stamp l l.lane.waiting else l) is)))

  worker_there : slice_get (host_of e).workers p ≡ Some (plain_worker l)
  worker_there = slice_get-map plain_worker e.lanes p ∙ ap (option_map plain_worker) stands

  -- the worker there lifts, or waits
  asks_lift : lane_ask scheme (lane_plan (site_of e) p) (plain_worker l) ≡ (if nat_lt l.worker.signing.next (leaves_of l.worker.signing.key) then Lifts else WorkerWaits)
  asks_lift =
      let plan : lane_plan (site_of e) p ≡ plan_of_lane l = get_or_from_slice_get (map plan_of_lane e.lanes) p (plan_of_lane l) no_lane (slice_get-map plan_of_lane e.lanes p ∙ ap (option_map plan_of_lane) stands) in
      ap (λ (x : LanePlan). lane_ask scheme x (plain_worker l)) plan
      ∙ (ap (λ hand. lane_ask scheme (plan_of_lane l) (record (plain_worker l) { hand = map plain_waiting hand })) empty
      ∙ ap (λ (ready : Bool). if ready then Lifts else WorkerWaits) (same_lane_leaf l.worker.signing.key l.worker.signing.next))

  asks : step_lane scheme (site_of e) (host_of e) p (slice_get (host_of e).workers p) ≡ asked (nat_lt l.worker.signing.next (leaves_of l.worker.signing.key))
  asks = ap (step_lane scheme (site_of e) (host_of e) p) worker_there ∙ ap (perform_lane scheme (site_of e) (host_of e) p) asks_lift

  pub lifts : (stamp : ℕ) → host_of (with_lane p (lifted_lane stamp) e) ≡ step_lane scheme (site_of e) (host_of e) p (slice_get (host_of e).workers p)
  lifts stamp = lifted_host stamp (nat_lt l.worker.signing.next (leaves_of l.worker.signing.key)) refl ∙ sym asks

  -- THE ENTRY OF A LIFT

  abbrev touched : Bool → Access
  touched ready = access_of_lane_ask (host_of e) p (if ready then Lifts else WorkerWaits)

  touches_lift : frame_access p e ≡ touched (nat_lt l.worker.signing.next (leaves_of l.worker.signing.key))
  touches_lift = ap (access_of_lane scheme (site_of e) (host_of e) p) worker_there ∙ ap (access_of_lane_ask (host_of e) p) asks_lift

  -- what stays as it is enters nothing
  enters_still : (stamp : ℕ) (who : Actor) (access : Access) → access ≡ NoAccess → lifted_lane stamp l ≡ l → Enters stamp who access e (with_lane p (lifted_lane stamp) e)
  enters_still stamp who access none same = enters_same stamp who access e (with_lane p (lifted_lane stamp) e) none
      (ap (λ (lanes : List HostLane). record e { lanes = lanes }) (at_still p (lifted_lane stamp) e.lanes (λ m h. subst (λ (x : HostLane). lifted_lane stamp x ≡ x) (sym (only m h)) same)))

  -- what is lifted is entered by the worker
  lift_history : (stamp : ℕ) (who : Actor) (w : Waiting) (waiting : List Waiting) → l.worker.who ≡ who → lifted_lane stamp l ≡ lifted_from stamp l (w ∷ waiting)
      → ((lifted_lane stamp l).lane.history ≡ l.lane.history ++ entry_of stamp who (lane_change (Lifted (min frame_limit (length (map plain_waiting (w ∷ waiting)))))) ∷ []) × ((lifted_lane stamp l).worker.entries ≡ l.worker.entries)
  lift_history stamp who w waiting is some = (
    ap (λ (m : HostLane). m.lane.history) some
        ∙ ((λ i. l.lane.history ++ entry_of stamp (is i) (lift_entry (w ∷ waiting)) ∷ [])
        ∙ ap (λ (n : ℕ). l.lane.history ++ entry_of stamp who (Lifted (min frame_limit n)) ∷ []) (sym (length-map (w ∷ waiting) plain_waiting))),
    ap (λ (m : HostLane). m.worker.entries) some,
  )

  enters_from : (stamp : ℕ) (who : Actor) (waiting : List Waiting) → l.worker.who ≡ who → lifted_lane stamp l ≡ lifted_from stamp l waiting → Enters stamp who (lift_access p (map plain_waiting waiting)) e (with_lane p (lifted_lane stamp) e)
  enters_from stamp who [] is same = enters_still stamp who NoAccess refl same
  enters_from stamp who (w ∷ waiting) is some = enters_lane stamp who e p (Lifted (min frame_limit (length (map plain_waiting (w ∷ waiting))))) (lifted_lane stamp)
      (λ m h. subst (λ (x : HostLane). ((lifted_lane stamp x).lane.history ≡ x.lane.history ++ entry_of stamp who (lane_change (Lifted (min frame_limit (length (map plain_waiting (w ∷ waiting)))))) ∷ []) × ((lifted_lane stamp x).worker.entries ≡ x.worker.entries))
      (sym (only m h)) (lift_history stamp who w waiting is some))

  enters_ready : (stamp : ℕ) (who : Actor) (ready : Bool) → l.worker.who ≡ who → nat_lt l.worker.signing.next (leaves_of l.worker.signing.key) ≡ ready → Enters stamp who (touched ready) e (with_lane p (lifted_lane stamp) e)
  enters_ready stamp who true is q = enters_by stamp who (touched true) (lift_access p (plain_queue l)) e (with_lane p (lifted_lane stamp) e) (ap (lift_access_in p) queue_at)
      (enters_from stamp who l.lane.waiting is (ap (λ (b : Bool). if b then lifted_from stamp l l.lane.waiting else l) q))
  enters_ready stamp who false is q = enters_still stamp who (touched false) refl (ap (λ (b : Bool). if b then lifted_from stamp l l.lane.waiting else l) q)

  pub enters_lifted : (stamp : ℕ) (who : Actor) → l.worker.who ≡ who → Enters stamp who (frame_access p e) e (with_lane p (lifted_lane stamp) e)
  enters_lifted stamp who is = enters_by stamp who (frame_access p e) (touched (nat_lt l.worker.signing.next (leaves_of l.worker.signing.key))) e (with_lane p (lifted_lane stamp) e) touches_lift
      (enters_ready stamp who (nat_lt l.worker.signing.next (leaves_of l.worker.signing.key)) is refl)

  -- with nothing in hand nothing was lifted, and else the worker's hand shows it
  pub nothing_lifted : (stamp : ℕ) → (lifted_lane stamp l).worker.hand ≡ [] → lifted_lane stamp l ≡ l
  nothing_lifted stamp none = lift_cases (λ m. m.worker.hand ≡ [] → m ≡ l) stamp l (λ same. refl) (λ w waiting there hand. absurd (front_some w waiting hand)) none

  pub still_lifted : (stamp : ℕ) → (lifted_lane stamp l).worker.hand ≡ [] → with_lane p (lifted_lane stamp) e ≡ e
  still_lifted stamp none = ap (λ (lanes : List HostLane). record e { lanes = lanes }) (at_still p (lifted_lane stamp) e.lanes (λ m h. subst (λ (x : HostLane). lifted_lane stamp x ≡ x) (sym (only m h)) (nothing_lifted stamp none)))

  abbrev hand_or : Option Worker → List PlainWaiting
  hand_or None = []
  hand_or (Some worker) = worker.hand

  no_hand : (hand : List Waiting) → map plain_waiting hand ≡ [] → hand ≡ []
  no_hand [] h = refl
  no_hand (w ∷ hand) h = absurd cc

  pub hand_moved : (stamp : ℕ) → host_of (with_lane p (lifted_lane stamp) e) ≡ host_of e → (lifted_lane stamp l).worker.hand ≡ []
  hand_moved stamp same =
      let before : slice_get (host_of e).workers p ≡ Some (plain_worker l) = slice_get-map plain_worker e.lanes p ∙ ap (option_map plain_worker) stands in
      let after : slice_get (host_of (with_lane p (lifted_lane stamp) e)).workers p ≡ Some (plain_worker (lifted_lane stamp l)) =
      slice_get-map plain_worker (at p (lifted_lane stamp) e.lanes) p ∙ ap (option_map plain_worker) (at_here p (lifted_lane stamp) e.lanes ∙ ap (option_map (lifted_lane stamp)) stands) in
      let one : Some (plain_worker (lifted_lane stamp l)) ≡ Some (plain_worker l) = sym after ∙ (ap (λ (x : Host). slice_get x.workers p) same ∙ before) in
      no_hand (lifted_lane stamp l).worker.hand (ap hand_or one ∙ ap (map plain_waiting) empty)

-- of the lane at a place
pub lift_enters : (e : HostState) (p stamp : ℕ) → IsFit e → p < length e.lanes → ((l : HostLane) → slice_get e.lanes p ≡ Some l → l.worker.hand ≡ []) → Enters stamp (lane_actor e.host p) (frame_access p e) e (with_lane p (lifted_lane stamp) e)
lift_enters e p stamp fit within empty = there_is (Enters stamp (lane_actor e.host p) (frame_access p e) e (with_lane p (lifted_lane stamp) e)) e.lanes p within
    (λ l h. enters_lifted e p l h (empty l h) stamp (lane_actor e.host p) (worker_is e p fit l h))
