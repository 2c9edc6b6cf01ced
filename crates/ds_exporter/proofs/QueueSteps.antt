-- A process of which the judged message goes onto its lane.
use Rattle.std.proofs.Common.{◌≡◌, ℕ, ◌+◌, ◌<◌, Bool, true, false, List, Option, Some, None, length, map, slice_get, option_map, refl, sym, ap, ◌∙◌, subst}
use Rattle.std.specs.Prelude.{◌++◌, ◌&&◌, position, is_some}
use Rattle.std.proofs.lemmas.Option.{slice_get-map, get_or_from_slice_get}
use Rattle.std.proofs.lemmas.List.{length-map}
use Rattle.std.proofs.lemmas.List.Elements.{All-push}
use Rattle.std.proofs.lemmas.List.Quantifiers.{position-Some}
use Rattle.ds_label.specs.declared.category.PubKey.{PubKey}
use Rattle.ds_label.specs.declared.category.Category.{Category}
use Rattle.ds_label.specs.Flow.{same_label}
use Rattle.ds_label.specs.Names.{by_name}
use Rattle.ds_script.specs.declared.actor.Actor.{Actor}
use Rattle.ds_script.specs.declared.note.Note.TheVariants as notes
use Rattle.ds_msg.specs.declared.message.Message.{Message}
use Rattle.ds_model.specs.Keys.{same_key}
use Rattle.ds_model.specs.Lists.{at}
use Rattle.ds_model.specs.Lane.{admit, admit_entry}
use Rattle.ds_model.specs.Plan.{HostPlan, LanePlan, lane_plan, no_lane}
use Rattle.ds_model.specs.World.{Process, Waiting}
use Rattle.ds_model.specs.ProcessStep.{Waits, Admit, ask, ask_hand, noted, queue_at, lane_of as lane_place}
use Rattle.ds_model.specs.Step.{admitted_lines, lined}
use Rattle.ds_model.specs.Access.{admit_access}
use Rattle.ds_lane.specs.declared.entry.LaneEntry.{LaneEntry}
use Rattle.ds_lane.specs.Lanes.{IsOn, entry_of, sent_by}
use Rattle.ds_lane.proofs.Grows.{grown_last}
use Rattle.ds_actor.specs.declared.ask.ProcessAsk.{ProcessAsk}
use Rattle.ds_actor.specs.declared.ask.ProcessAsk.TheVariants as asks
use Rattle.ds_actor.specs.Sites.{with_site, is_lane_for as is_cert_for}
use Rattle.ds_actor.specs.Asks.{IsAsked, IsAskInRange, IsCopied}
use Rattle.ds_actor.specs.Asking.{IsOfHand}
use Rattle.ds_actor.proofs.Sites.{same_lane}
use Rattle.ds_exporter.specs.HostStates.{HostLane, HostProcess, HostState}
use Rattle.ds_exporter.specs.PlainHosts.{host_of, site_of, log_of, plain_process, plain_queue, plain_worker, plan_of_lane}
use Rattle.ds_exporter.specs.Conditions.{IsFit, HandHasLane, HasLane, HasMore}
use Rattle.ds_exporter.specs.Sites.{cert_of, fixed_in}
use Rattle.ds_exporter.specs.Queueing.{HandAsks, IsOnAt, IsSentOn, LeadsToLane, admitted_lane, is_lane_for, queued_proc}
use Rattle.ds_exporter.specs.Stamping.{IsBefore, IsLaneBefore, IsUpTo}
use Rattle.ds_exporter.specs.Entering.{Enters, step_access}
use Rattle.ds_exporter.specs.Stepping.{Asks, IsStepped, admit_ask, proc_actor}
use Rattle.ds_exporter.proofs.Entering.{enters_admitted, enters_beside, enters_by}
use Rattle.ds_exporter.proofs.Places.{all_get, map_kept_at, map_over_at, there_is}
use Rattle.ds_exporter.proofs.Stamps.{lane_more}
use Rattle.ds_exporter.proofs.Queues.{log_admitted, position_seen, queue_admitted}
use Rattle.ds_exporter.proofs.OneLane.{Keeps, with_lane, fits_lane, plan_lane, below_lane, this_below}
use Rattle.ds_exporter.proofs.OneProc.{with_proc, fits_proc}
use Rattle.ds_exporter.proofs.OneStep.{becomes, host_by, moved_on, only, performs, seen, site_proc, touches}

-- THE LANE

pub keeps_admitted : (stamp : ℕ) (who : Actor) (m : Message) (l : HostLane) → Keeps l (admitted_lane stamp who m l)
keeps_admitted stamp who m l = record { cert = refl; worker_cert = refl; who = refl; planned = refl }

abbrev is_below : ℕ → LaneEntry → Type 0
is_below n entry = entry.stamp < n

below_admitted : (stamp : ℕ) (who : Actor) (m : Message) (l : HostLane) → IsLaneBefore stamp l → IsLaneBefore (stamp + 1) (admitted_lane stamp who m l)
below_admitted stamp who m l b =
    let entry = admit_entry l.lane.room (sent_by who.index m) l.lane.waiting in
    let more = lane_more stamp l b in
    record {
      last = subst (λ n. n < stamp + 1) (grown_last l.lane stamp who entry) (this_below stamp);
      senders = All-push (is_below (stamp + 1)) l.lane.history (entry_of stamp who entry) more.senders (this_below stamp);
      worker = more.worker;
    }

-- WHERE IT STANDS

pub lane_found : (e : HostState) (to : PubKey) (label : List Category) → lane_place (site_of e) to label ≡ position (is_lane_for to label) e.lanes
lane_found e to label = sym (position_seen plan_of_lane (λ (l : LanePlan). same_key l.cert.receiver to && same_label by_name l.cert.label label) e.lanes)

-- as the process's site sees it
same_place : (e : HostState) (rows : List Category) (plan : HostPlan) (to : PubKey) (label : List Category) → lane_place (with_site (fixed_in e) rows plan) to label ≡ lane_place (site_of e) to label
same_place e rows plan to label = same_lane (fixed_in e) rows plan to label ∙ (sym (position_seen cert_of (is_cert_for to label) e.lanes) ∙ sym (lane_found e to label))

pub asks_queue : (e : HostState) (p : ℕ) (x : HostProcess) (m : Message) → x.hand ≡ Some m
    → ask (site_of e) p (plain_process e.desk.here e.desk.desk.rows x) ≡ queue_at (plain_process e.desk.here e.desk.desk.rows x) m (lane_place (site_of e) m.to m.label)
asks_queue e p x m hand = ap (ask_hand (site_of e) p (plain_process e.desk.here e.desk.desk.rows x)) hand

-- what is asked with a message in hand is what the code's call says
pub leads : (e : HostState) (p : ℕ) (x : HostProcess) → slice_get e.procs p ≡ Some x → (a : ProcessAsk) → HandAsks (fixed_in e) x a → LeadsToLane p e a
leads e p x stands a h = go a h.kind h.copied h.range (λ y. h.asked e.desk.here e.desk.desk.rows (site_of e) y y)
  where
    by_hand : (y : HostProcess) → slice_get e.procs p ≡ Some y → ask (site_of e) p (plain_process e.desk.here e.desk.desk.rows y)
        ≡ queue_at (plain_process e.desk.here e.desk.desk.rows y) h.message (lane_place (with_site (fixed_in e) e.desk.desk.rows (site_of e)) h.message.to h.message.label)
    by_hand y there =
        asks_queue e p y h.message (ap (λ (z : HostProcess). z.hand) (only e p x stands y there) ∙ h.hand)
        ∙ ap (queue_at (plain_process e.desk.here e.desk.desk.rows y) h.message) (sym (same_place e e.desk.desk.rows (site_of e) h.message.to h.message.label))

    go : (b : ProcessAsk) → IsOfHand b → IsCopied b → IsAskInRange (fixed_in e) b
        → ((y : Process) → IsAsked e.desk.here e.desk.desk.rows y y b (queue_at y h.message (lane_place (with_site (fixed_in e) e.desk.desk.rows (site_of e)) h.message.to h.message.label))) → LeadsToLane p e b
    go asks.Waits kind copied range asked = λ y there. by_hand y there ∙ asked (plain_process e.desk.here e.desk.desk.rows y)
    go (asks.Admit lane m kept) kind copied range asked = (
      λ y there. by_hand y there ∙ asked (plain_process e.desk.here e.desk.desk.rows y),
      copied,
      subst (λ (n : ℕ). lane < n) (length-map e.lanes cert_of) range,
    )
    go asks.Internal kind copied range asked = absurd kind
    go (asks.Refused rule) kind copied range asked = absurd kind
    go (asks.Put place m kept) kind copied range asked = absurd kind
    go (asks.TakeFrom place reg slot) kind copied range asked = absurd kind
    go (asks.PublicAct request reg host) kind copied range asked = absurd kind
    go (asks.AsksJudgement m) kind copied range asked = absurd kind

queued_place : (x : Process) (m n : Message) (l : ℕ) (next : Process) (place : Option ℕ) → queue_at x m place ≡ Admit l n next → (place ≡ Some l) × (m ≡ n)
queued_place x m n l next None e = absurd (no e)
  where
    no : Waits ≡ Admit l n next → ⊥
    no q = cc
queued_place x m n l next (Some k) e = (ap (λ (i : ℕ). Some i) (places e), messages e)
  where
    places : Admit k m (noted notes.Sent (record x { hand = None })) ≡ Admit l n next → k ≡ l
    places q = cc

    messages : Admit k m (noted notes.Sent (record x { hand = None })) ≡ Admit l n next → m ≡ n
    messages q = cc

module _ (e : HostState) (p l : ℕ) (m : Message) (within : p < length e.procs) (some : (x : HostProcess) → slice_get e.procs p ≡ Some x → is_some x.hand ≡ true) (asked : Asks p e (admit_ask l m)) where
  -- the message is the one in hand, and its lane is at that place
  hand_at : (x : HostProcess) → slice_get e.procs p ≡ Some x → (x.hand ≡ Some m) × (position (is_lane_for m.to m.label) e.lanes ≡ Some l)
  hand_at x h = go x.hand refl (some x h)
    where
      go : (o : Option Message) → x.hand ≡ o → is_some o ≡ true → (x.hand ≡ Some m) × (position (is_lane_for m.to m.label) e.lanes ≡ Some l)
      go None is s = absurd cc
      go (Some n) is s =
          let y = plain_process e.desk.here e.desk.desk.rows x in
          let q = queued_place y n m l (noted notes.Sent (record y { hand = None })) (lane_place (site_of e) n.to n.label) (sym (asks_queue e p x n is) ∙ asked x h) in (
            is ∙ ap (λ (k : Message). Some k) q.1,
            subst (λ (k : Message). position (is_lane_for k.to k.label) e.lanes ≡ Some l) q.1 (sym (lane_found e n.to n.label) ∙ q.0),
          )

  pub goes_there : (y : HostLane) → slice_get e.lanes l ≡ Some y → is_lane_for m.to m.label y ≡ true
  goes_there y there = there_is (is_lane_for m.to m.label y ≡ true) e.procs p within (λ x h.
      ap (is_lane_for m.to m.label) (sym (get_or_from_slice_get e.lanes l y y there)) ∙ (position-Some (is_lane_for m.to m.label) e.lanes l y (hand_at x h).1).1)

  pub on_lane : IsFit e → ((y : HostLane) → slice_get e.lanes l ≡ Some y → IsSentOn y.lane.cert m) → IsOnAt l e.lanes m
  on_lane fit sent y there = there_is (IsOn y.lane.cert m) e.procs p within (λ x h.
      let any = subst (HasLane e.lanes) (hand_at x h).0 (all_get (HandHasLane e.lanes) e.procs p x fit.hands h) in
      record { to = (sent y there).to; label = (sent y there).label; range = any.0.4.range })

  module _ (stamp host : ℕ) where
    abbrev who : Actor
    who = proc_actor host p

    abbrev with_admitted : HostState
    with_admitted = with_lane l (admitted_lane stamp who m) e

    abbrev pub queued : HostState
    queued = with_proc p queued_proc with_admitted

    pub fits_queued : IsFit e → IsFit queued
    fits_queued fit = fits_proc with_admitted p queued_proc (fits_lane e l (admitted_lane stamp who m) fit (λ y h. keeps_admitted stamp who m y))
        (λ x h. record { script = refl; named = λ n. n; numbered = λ n. n; hand = λ k. tt; going = λ g. tt })

    below_queued : IsBefore stamp e → IsUpTo stamp queued
    below_queued b =
        let more = below_lane stamp e l (admitted_lane stamp who m) (λ y h is. below_admitted stamp who m y is) b in
        record { desk = more.desk; boxes = more.boxes; lanes = more.lanes; inlets = more.inlets }

    abbrev w : Waiting
    w = record { sender = p; message = m }

    planned : (y : HostLane) → slice_get e.lanes l ≡ Some y → lane_plan (site_of e) l ≡ plan_of_lane y
    planned y h = get_or_from_slice_get (map plan_of_lane e.lanes) l (plan_of_lane y) no_lane (slice_get-map plan_of_lane e.lanes l ∙ ap (option_map plan_of_lane) h)

    queue_there : (y : HostLane) → slice_get e.lanes l ≡ Some y → slice_get (host_of e).queues l ≡ Some (plain_queue y)
    queue_there y h = slice_get-map plain_queue e.lanes l ∙ ap (option_map plain_queue) h

    queues_after : map plain_queue (at l (admitted_lane stamp who m) e.lanes) ≡ at l (admit (lane_plan (site_of e) l).room w) (host_of e).queues
    queues_after = map_over_at plain_queue l (admitted_lane stamp who m) (admit (lane_plan (site_of e) l).room w) e.lanes
        (λ y h. queue_admitted stamp who m y ∙ ap (λ (q : LanePlan). admit q.room w (plain_queue y)) (sym (planned y h)))

    logs_after : IsBefore stamp e → map log_of (at l (admitted_lane stamp who m) e.lanes) ≡ at l (lined (admitted_lines (lane_plan (site_of e) l).room w (slice_get (host_of e).queues l))) (host_of e).logs
    logs_after below = map_over_at log_of l (admitted_lane stamp who m) (lined (admitted_lines (lane_plan (site_of e) l).room w (slice_get (host_of e).queues l))) e.lanes
        (λ y h. log_admitted stamp who m y (all_get (IsLaneBefore stamp) e.lanes l y below.lanes h)
        ∙ λ i. log_of y ++ admitted_lines (sym (planned y h) i).room w (sym (queue_there y h) i))

    workers_after : map plain_worker (at l (admitted_lane stamp who m) e.lanes) ≡ (host_of e).workers
    workers_after = map_kept_at plain_worker l (admitted_lane stamp who m) e.lanes (λ y h. refl)

    entered_queued : host ≡ e.host → (x : HostProcess) → slice_get e.procs p ≡ Some x → Enters stamp (proc_actor e.host p) (step_access p e) e queued
    entered_queued is x h =
        let touch = admit_access l (lane_plan (site_of e) l).room w (slice_get (host_of e).queues l) in
        subst (λ (n : ℕ). Enters stamp (proc_actor n p) (step_access p e) e queued) is
        (enters_by stamp who (step_access p e) touch e queued (touches e p x h (admit_ask l m) asked)
        (enters_beside stamp who touch e with_admitted (at p queued_proc e.procs) e.conns (enters_admitted stamp who e l m)))

    pub stepped_queue : host ≡ e.host → IsBefore stamp e → IsStepped stamp p e queued
    stepped_queue acts below = there_is (IsStepped stamp p e queued) e.procs p within (λ x h.
        let next : Process = noted notes.Sent (record (seen e p x h) { hand = None }) in
        let queues = queues_after in
        let workers = workers_after in
        let logs = logs_after below in
        record {
          host = host_by with_admitted p queued_proc (λ _. next) (λ y there. ap (λ (z : HostProcess). noted notes.Sent (record (plain_process e.desk.here e.desk.desk.rows z) { hand = None })) (only e p x h y there))
              ∙ ((λ i. record (host_of e) { procs = at p (λ _. next) (host_of e).procs; queues = queues i; workers = workers i; logs = logs i })
              ∙ sym (performs e p x h (admit_ask l m) asked));
          changed = moved_on e queued p x (queued_proc x) h (becomes e p x h queued_proc) refl;
          site = site_proc with_admitted p queued_proc ∙ plan_lane e l (admitted_lane stamp who m) (λ y k. keeps_admitted stamp who m y);
          conns = refl;
          named = λ link place. refl;
          stamps = below_queued below;
          entered = entered_queued acts x h;
        })

-- with a message in hand a process is before its script's end
pub with_more : (hand : Option Message) (place size : ℕ) → is_some hand ≡ true → HasMore hand place size → place < size
with_more None place size some more = absurd cc
with_more (Some m) place size some more = more

-- without one its hand is empty
pub empty_hand : (hand : Option Message) (some : Bool) → some ≡ is_some hand → some ≡ false → hand ≡ None
empty_hand None some is none = refl
empty_hand (Some m) some is none = absurd cc
