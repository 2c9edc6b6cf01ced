-- A host after the desk judged the hand of a lane's worker.
use Rattle.std.proofs.Common.{◌≡◌, ℕ, zero, suc, ◌+◌, ◌<◌, ◌≤◌, List, [], ◌∷◌, ◌++◌, Option, Some, None, length, map, slice_get, option_map, refl, sym, ap, ◌∙◌, subst, arith}
use Rattle.std.specs.Prelude.{All}
use Rattle.std.proofs.lemmas.Option.{slice_get-map, get_or_from_slice_get}
use Rattle.std.proofs.lemmas.List.Elements.{All-append}
use Rattle.ds_label.specs.declared.rule.Rule.{Rule}
use Rattle.ds_script.specs.declared.actor.Actor.{Actor}
use Rattle.ds_model.specs.Lists.{at}
use Rattle.ds_model.specs.Desk.{Looked}
use Rattle.ds_model.specs.Plan.{LanePlan, no_lane, lane_plan}
use Rattle.ds_model.specs.World.{Worker, Host, Waiting as PlainWaiting}
use Rattle.ds_model.proofs.Places.{at_here}
use Rattle.ds_model.specs.WorkerStep.{AsksRecheck, checked_after_reply, checked_lines, lane_ask_hand, rechecked}
use Rattle.ds_model.specs.Step.{perform_lane, step_lane, lined, checked_in}
use Rattle.ds_model.specs.Access.{InDesk, access_of_lane, access_of_lane_ask}
use Rattle.ds_desk.specs.Desks.{IsReplay, entered}
use Rattle.ds_lane.specs.declared.batch.Waiting.{Waiting}
use Rattle.ds_lane.specs.declared.worker_entry.WorkerEntry.{WorkerEntry}
use Rattle.ds_lane.specs.Lanes.{WaitsOn}
use Rattle.ds_lane.specs.Workers.{IsHolding, dropped_entry, framed_entry}
use Rattle.ds_scheme.specs.TheScheme.{scheme}
use Rattle.ds_exporter.specs.HostStates.{HostLane, HostState}
use Rattle.ds_exporter.specs.Merging.{plain_waiting}
use Rattle.ds_exporter.specs.PlainHosts.{plain_queue, plain_worker, log_of, host_of, site_of, plan_of_lane}
use Rattle.ds_exporter.specs.Checking.{lane_rule, checked_as, with_checked}
use Rattle.ds_exporter.specs.Conditions.{IsFit}
use Rattle.ds_exporter.specs.Entering.{frame_access}
use Rattle.ds_exporter.specs.Stamping.{IsBefore, IsLaneBefore, last_of_desk}
use Rattle.ds_exporter.proofs.Places.{map_over_at, map_kept_at, some_is, all_get, there_is}
use Rattle.ds_exporter.proofs.Stamps.{lane_more}
use Rattle.ds_exporter.proofs.Tables.{fits_desk}
use Rattle.ds_exporter.proofs.OneLane.{Keeps, with_lane, fits_lane, plan_lane, below_lane, this_below}
use Rattle.ds_exporter.proofs.Checks.{plain_hand, worker_passes, worker_drops, log_passes, log_drops}

-- THE LANE

pub keeps_checked : (stamp : ℕ) (rule : Option Rule) (l : HostLane) → Keeps l (checked_as stamp rule l)
keeps_checked stamp None l = record { cert = refl; worker_cert = refl; who = refl; planned = refl }
keeps_checked stamp (Some rule) l = record { cert = refl; worker_cert = refl; who = refl; planned = refl }

abbrev end_below : ℕ → WorkerEntry → Type 0
end_below n entry = entry.stamp < n

dropped_below : (stamp : ℕ) (rule : Rule) (hand : List Waiting) → All (end_below (stamp + 1)) (map (dropped_entry stamp rule) hand)
dropped_below stamp rule [] k d w = absurd (omega (arith, w))
dropped_below stamp rule (v ∷ hand) zero d w = this_below stamp
dropped_below stamp rule (v ∷ hand) (suc k) d w = dropped_below stamp rule hand k d (omega (arith, w))

framed_below : (stamp number count : ℕ) → All (end_below (stamp + 1)) (framed_entry stamp number count ∷ [])
framed_below stamp number count zero d w = this_below stamp
framed_below stamp number count (suc k) d w = absurd (omega (arith, w))

pub below_checked : (stamp : ℕ) (rule : Option Rule) (l : HostLane) → IsLaneBefore stamp l → IsLaneBefore (stamp + 1) (checked_as stamp rule l)
below_checked stamp None l b =
    let more = lane_more stamp l b in
    record { last = more.last; senders = more.senders; worker = All-append (end_below (stamp + 1)) l.worker.entries (framed_entry stamp l.worker.signing.next (length l.worker.hand) ∷ []) more.worker (framed_below stamp l.worker.signing.next (length l.worker.hand)) }
below_checked stamp (Some rule) l b =
    let more = lane_more stamp l b in
    record { last = more.last; senders = more.senders; worker = All-append (end_below (stamp + 1)) l.worker.entries (map (dropped_entry stamp rule) l.worker.hand) more.worker (dropped_below stamp rule l.worker.hand) }

-- the queue is the same
queue_checked : (stamp : ℕ) (rule : Option Rule) (l : HostLane) → plain_queue (checked_as stamp rule l) ≡ plain_queue l
queue_checked stamp None l = refl
queue_checked stamp (Some rule) l = refl

-- THE HOST

pub fits_checked : (e : HostState) (stamp p : ℕ) (who : Actor) (rule : Option Rule) → IsFit e → IsReplay (entered stamp who Looked e.desk) → IsFit (with_checked stamp p who rule e)
fits_checked e stamp p who rule fit replay =
    fits_desk (with_lane p (checked_as stamp rule) e) (entered stamp who Looked e.desk) (fits_lane e p (checked_as stamp rule) fit (λ l h. keeps_checked stamp rule l)) replay refl refl

pub plan_checked : (e : HostState) (stamp p : ℕ) (who : Actor) (rule : Option Rule) → site_of (with_checked stamp p who rule e) ≡ site_of e
plan_checked e stamp p who rule = plan_lane e p (checked_as stamp rule) (λ l h. keeps_checked stamp rule l)

pub below_with_checked : (e : HostState) (stamp p : ℕ) (who : Actor) (rule : Option Rule) → IsBefore stamp e → last_of_desk (entered stamp who Looked e.desk) ≤ stamp → IsBefore (stamp + 1) (with_checked stamp p who rule e)
below_with_checked e stamp p who rule b last =
    let more = below_lane stamp e p (checked_as stamp rule) (λ l h. below_checked stamp rule l) b in
    record { desk = omega (arith, last); boxes = more.boxes; lanes = more.lanes; inlets = more.inlets }

module _ (e : HostState) (p stamp : ℕ) (l : HostLane) (stands : slice_get e.lanes p ≡ Some l) (w : Waiting) (rest : List Waiting) (some : l.worker.hand ≡ w ∷ rest) (on : All (WaitsOn l.worker.cert) l.worker.hand) (below : IsLaneBefore stamp l) where
  one_only : (m : HostLane) → slice_get e.lanes p ≡ Some m → m ≡ l
  one_only m h = some_is m l (sym h ∙ stands)

  -- what the desk answers of the hand
  abbrev rules : List (Option Rule)
  rules = rechecked scheme e.desk.desk (plain_hand l.worker.hand)

  worker_checked : (rule : Option Rule) → lane_rule e.desk.desk l.worker.cert ≡ rule → plain_worker (checked_as stamp rule l) ≡ checked_after_reply scheme (plan_of_lane l) rules (plain_worker l)
  worker_checked None is = worker_passes e.desk.desk l w rest some on stamp is
  worker_checked (Some rule) is = worker_drops e.desk.desk l w rest some on stamp rule is

  log_checked : (rule : Option Rule) → lane_rule e.desk.desk l.worker.cert ≡ rule → log_of (checked_as stamp rule l) ≡ log_of l ++ checked_lines rules (plain_worker l)
  log_checked None is = log_passes e.desk.desk l w rest some on stamp below is
  log_checked (Some rule) is = log_drops e.desk.desk l w rest some on stamp rule below is

  worker_at : slice_get (map plain_worker e.lanes) p ≡ Some (plain_worker l)
  worker_at = slice_get-map plain_worker e.lanes p ∙ ap (option_map plain_worker) stands

  plan_at : lane_plan (site_of e) p ≡ plan_of_lane l
  plan_at = get_or_from_slice_get (map plan_of_lane e.lanes) p (plan_of_lane l) no_lane (slice_get-map plan_of_lane e.lanes p ∙ ap (option_map plan_of_lane) stands)

  abbrev checked_under : LanePlan → Option Worker → Host
  checked_under x o = record (host_of e) { workers = at p (checked_after_reply scheme x rules) (map plain_worker e.lanes); logs = at p (lined (checked_in rules o)) (map log_of e.lanes) }

  -- a worker with something in hand asks the desk about it
  asked : (x : LanePlan) (hand : List PlainWaiting) → hand ≡ plain_hand (w ∷ rest) → lane_ask_hand scheme x (plain_worker l) hand ≡ AsksRecheck hand
  asked x hand is = subst (λ (h : List PlainWaiting). lane_ask_hand scheme x (plain_worker l) h ≡ AsksRecheck h) (sym is) refl

  asks_check : step_lane scheme (site_of e) (host_of e) p (slice_get (host_of e).workers p) ≡ checked_under (plan_of_lane l) (Some (plain_worker l))
  asks_check =
      ap (step_lane scheme (site_of e) (host_of e) p) worker_at
      ∙ (ap (perform_lane scheme (site_of e) (host_of e) p) (asked (lane_plan (site_of e) p) (plain_hand l.worker.hand) (ap plain_hand some))
      ∙ λ i. checked_under (plan_at i) (worker_at i))

  touches_desk : frame_access p e ≡ InDesk Looked
  touches_desk =
      ap (access_of_lane scheme (site_of e) (host_of e) p) worker_at
      ∙ ap (access_of_lane_ask (host_of e) p) (asked (lane_plan (site_of e) p) (plain_hand l.worker.hand) (ap plain_hand some))

  pub checks : (who : Actor) (rule : Option Rule) → rule ≡ lane_rule e.desk.desk l.worker.cert
      → host_of (with_checked stamp p who rule e) ≡ step_lane scheme (site_of e) (host_of e) p (slice_get (host_of e).workers p)
  checks who rule is =
      let queues = map_kept_at plain_queue p (checked_as stamp rule) e.lanes (λ m h. queue_checked stamp rule m) in
      let workers = map_over_at plain_worker p (checked_as stamp rule) (checked_after_reply scheme (plan_of_lane l) rules) e.lanes
      (λ m h. subst (λ (x : HostLane). plain_worker (checked_as stamp rule x) ≡ checked_after_reply scheme (plan_of_lane l) rules (plain_worker x)) (sym (one_only m h)) (worker_checked rule (sym is))) in
      let logs = map_over_at log_of p (checked_as stamp rule) (lined (checked_lines rules (plain_worker l))) e.lanes
      (λ m h. subst (λ (x : HostLane). log_of (checked_as stamp rule x) ≡ log_of x ++ checked_lines rules (plain_worker l)) (sym (one_only m h)) (log_checked rule (sym is))) in
      (λ i. record (host_of e) { queues = queues i; workers = workers i; logs = logs i })
      ∙ sym asks_check

  hand_cleared : (rule : Option Rule) → (plain_worker (checked_as stamp rule l)).hand ≡ []
  hand_cleared None = refl
  hand_cleared (Some rule) = refl

  abbrev hand_or : Option Worker → List PlainWaiting
  hand_or None = []
  hand_or (Some worker) = worker.hand

  pub hand_changed : (who : Actor) (rule : Option Rule) → host_of (with_checked stamp p who rule e) ≡ host_of e → ⊥
  hand_changed who rule same =
      let after : slice_get (host_of (with_checked stamp p who rule e)).workers p ≡ Some (plain_worker (checked_as stamp rule l)) =
      slice_get-map plain_worker (at p (checked_as stamp rule) e.lanes) p ∙ ap (option_map plain_worker) (at_here p (checked_as stamp rule) e.lanes ∙ ap (option_map (checked_as stamp rule)) stands) in
      let hands : [] ≡ plain_hand l.worker.hand = sym (hand_cleared rule) ∙ (ap hand_or (sym after) ∙ (ap (λ (x : Host). hand_or (slice_get x.workers p)) same ∙ ap hand_or worker_at)) in
      none_some (plain_waiting w) (plain_hand rest) (hands ∙ ap plain_hand some)
    where
      none_some : (x : PlainWaiting) (xs : List PlainWaiting) → [] ≡ x ∷ xs → ⊥
      none_some x xs q = grind arith

held_cases : (P : Type 0) (hand : List Waiting) → 0 < length hand → ((w : Waiting) (rest : List Waiting) → hand ≡ w ∷ rest → P) → P
held_cases P [] some f = absurd (omega (arith, some))
held_cases P (w ∷ rest) some f = f w rest refl

-- what is known of the lane at that place
module _ (e : HostState) (p stamp : ℕ) (within : p < length e.lanes) (below : IsBefore stamp e)
    (some : (l : HostLane) → slice_get e.lanes p ≡ Some l → 0 < length l.worker.hand) (holds : (l : HostLane) → slice_get e.lanes p ≡ Some l → IsHolding l.worker)
    (who : Actor) (rule : Option Rule) (judged : (l : HostLane) → slice_get e.lanes p ≡ Some l → rule ≡ lane_rule e.desk.desk l.worker.cert) where
  pub checked_host_is : host_of (with_checked stamp p who rule e) ≡ step_lane scheme (site_of e) (host_of e) p (slice_get (host_of e).workers p)
  checked_host_is = there_is (host_of (with_checked stamp p who rule e) ≡ step_lane scheme (site_of e) (host_of e) p (slice_get (host_of e).workers p)) e.lanes p within
      (λ l h. held_cases (host_of (with_checked stamp p who rule e) ≡ step_lane scheme (site_of e) (host_of e) p (slice_get (host_of e).workers p)) l.worker.hand (some l h)
      (λ w rest is. checks e p stamp l h w rest is (holds l h).on (all_get (IsLaneBefore stamp) e.lanes p l below.lanes h) who rule (judged l h)))

  pub checked_host_moved : host_of (with_checked stamp p who rule e) ≡ host_of e → ⊥
  checked_host_moved same = there_is ⊥ e.lanes p within
      (λ l h. held_cases ⊥ l.worker.hand (some l h) (λ w rest is. hand_changed e p stamp l h w rest is (holds l h).on (all_get (IsLaneBefore stamp) e.lanes p l below.lanes h) who rule same))

-- it touches the desk
pub checked_touches : (e : HostState) (p stamp : ℕ) → p < length e.lanes → IsBefore stamp e → ((l : HostLane) → slice_get e.lanes p ≡ Some l → 0 < length l.worker.hand)
    → ((l : HostLane) → slice_get e.lanes p ≡ Some l → IsHolding l.worker) → frame_access p e ≡ InDesk Looked
checked_touches e p stamp within below some holds = there_is (frame_access p e ≡ InDesk Looked) e.lanes p within
    (λ l h. held_cases (frame_access p e ≡ InDesk Looked) l.worker.hand (some l h) (λ w rest is. touches_desk e p stamp l h w rest is (holds l h).on (all_get (IsLaneBefore stamp) e.lanes p l below.lanes h)))
