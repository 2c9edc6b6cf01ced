-- Histories that go on by the entry of what an event touches.
use Rattle.std.proofs.Common.{◌≡◌, ◌≢◌, ℕ, ◌<◌, ◌≤◌, Bool, true, false, List, [], ◌∷◌, ◌++◌, Option, Some, None, length, map, slice_get, option_map, refl, sym, ap, ◌∙◌, subst, eqb, eq-eqb, ne_eqb, arith}
use Rattle.std.specs.Prelude.{nat_le, nat_lt, if◌then◌else◌}
use Rattle.std.specs.List.{AllByRecursion}
use Rattle.std.proofs.lemmas.Bool.Decides.{nat_tests}
use Rattle.std.proofs.lemmas.List.{append-nil, length-map}
use Rattle.std.proofs.lemmas.Option.{get_or_from_slice_get, slice_get-map, slice_get_within}
use Rattle.ds_label.specs.declared.rule.Rule.{Rule}
use Rattle.ds_label.specs.declared.category.PubKey.{PubKey}
use Rattle.ds_label.specs.declared.category.Category.{Category}
use Rattle.ds_script.specs.declared.actor.Actor.{Actor}
use Rattle.ds_msg.specs.declared.local.LocalMessage.{LocalMessage}
use Rattle.ds_msg.specs.declared.message.Message.{Message}
use Rattle.ds_model.specs.Lists.{at}
use Rattle.ds_model.specs.Plan.{BoxPlan, LanePlan, box_plan, lane_plan, no_lane}
use Rattle.ds_model.specs.World.{Mail, Mailbox, Waiting as PlainWaiting}
use Rattle.ds_model.specs.Desk.{DeskEntry, Looked, Ticked}
use Rattle.ds_model.specs.Mailbox.{BoxEntry, PutIn, FoundFull, put_entry}
use Rattle.ds_model.specs.Lane.{LaneEntry, Queued, QueueFull, admit_entry}
use Rattle.ds_model.specs.Inlet.{InletEntry, number_entry}
use Rattle.ds_model.specs.Access.{Access, NoAccess, InBox, InLane, InInlet, InDesk, admit_access, box_entry, lane_entry, inlet_entry, number_access, put_access}
use Rattle.ds_model.proofs.Places.{at_each, at_here, at_other, at_still, none_some}
use Rattle.ds_box.specs.declared.entry.BoxEntry.{BoxEntry as LocalEntry}
use Rattle.ds_box.specs.Boxes.{act_of, entry_of as box_entry_of}
use Rattle.ds_desk.specs.Desks.{DeskView, entered}
use Rattle.ds_lane.specs.declared.batch.Waiting.{Waiting as SentMessage}
use Rattle.ds_lane.specs.Lanes.{entry_of as lane_entry_of, sent_by}
use Rattle.ds_lane.specs.Workers.{dropped_entry, framed_entry}
use Rattle.ds_inlet.specs.Connections.{Connection}
use Rattle.ds_inlet.specs.Inlets.{CountedLane, entry_of as inlet_entry_of}
use Rattle.ds_exporter.specs.declared.moved.Moved.{Moved}
use Rattle.ds_exporter.specs.declared.moved.Moved.TheVariants.{Changed, Still}
use Rattle.ds_exporter.specs.HostStates.{HostBox, HostLane, HostProcess, HostState}
use Rattle.ds_exporter.specs.Merging.{plain_waiting}
use Rattle.ds_exporter.specs.PlainHosts.{host_of, plain_act, plain_box, plain_entry, plain_inlet, plain_mail, plain_queue, plan_of_lane, site_of}
use Rattle.ds_exporter.specs.Accepting.{counted}
use Rattle.ds_exporter.specs.Checking.{checked_as, with_checked}
use Rattle.ds_exporter.specs.Conditions.{IsFit, lane_actor}
use Rattle.ds_exporter.specs.Mailboxes.{put_in}
use Rattle.ds_exporter.specs.Queueing.{admitted_lane}
use Rattle.ds_exporter.specs.Stepping.{Steps, proc_actor}
use Rattle.ds_exporter.specs.Entering.{AtEachPlace, BoxGoesOn, Enters, InletGoesOn, IsBoxEntryOf, IsWorkerEntryAt, LaneGoesOn, WorkerGoesOn, lane_change, step_access, tick_access}
use Rattle.ds_exporter.proofs.Places.{length_at, some_is}
use Rattle.ds_exporter.proofs.BoxPuts.{box_planned}

-- LISTS

module _ {X : Type 0} (P : ℕ → X → X → Type 0) where
  -- none changed
  pub each_same : ((place : ℕ) (x : X) → P place x x) → (xs : List X) → AtEachPlace P xs xs
  each_same same xs = (refl, λ place x y h k. subst (P place x) (some_is x y (sym h ∙ k)) (same place x))

  -- one changed
  pub each_at : (p : ℕ) (f : X → X) (xs : List X) → ((x : X) → slice_get xs p ≡ Some x → P p x (f x)) → ((place : ℕ) → place ≢ p → (x : X) → P place x x) → AtEachPlace P xs (at p f xs)
  each_at p f xs here others = (
    length_at p f xs,
    λ place x y. at_each (λ (j : ℕ). slice_get xs j ≡ Some x → slice_get (at p f xs) j ≡ Some y → P j x y) p
        (λ h k. subst (P p x) (some_is (f x) y (sym (at_here p f xs ∙ ap (option_map f) h) ∙ k)) (here x h))
        (λ j apart h k. subst (P j x) (some_is x y (sym h ∙ (sym (at_other p j f xs apart) ∙ k))) (others j apart x)) place,
  )

-- AN ENTRY AT ITS PLACE

module _ {E : Type 0} (entry : E) where
  abbrev own_by : Bool → List E
  own_by b = if b then entry ∷ [] else []

  pub own_here : (p : ℕ) → (if eqb p p then entry ∷ [] else []) ≡ entry ∷ []
  own_here p = ap own_by (eq-eqb p p refl)

  pub own_elsewhere : (p place : ℕ) → place ≢ p → (if eqb p place then entry ∷ [] else []) ≡ []
  own_elsewhere p place apart = ap own_by (ne_eqb p place (λ e. apart (sym e)))

-- HISTORIES THAT STAY

-- of entries seen through a function
stays_by : {E M : Type 0} (f : M → E) (old : List E) (entries : List M) → entries ≡ [] → old ≡ old ++ map f entries
stays_by f old entries none = sym (append-nil old) ∙ ap (λ es. old ++ map f es) (sym none)

module _ (stamp : ℕ) (who : Actor) (access : Access) (place : ℕ) where
  box_stays : (here : PubKey) (rows : List Category) (b : HostBox) → box_entry place access ≡ [] → BoxGoesOn stamp who here rows access place b b
  box_stays here rows b none = record { more = []; history = sym (append-nil b.mailbox.history); own = tt; names = sym none }

  lane_stays : (l : HostLane) → lane_entry place access ≡ [] → LaneGoesOn stamp who access place l l
  lane_stays l none = stays_by (lane_entry_of stamp who) l.lane.history (map lane_change (lane_entry place access)) (ap (map lane_change) none)

  worker_stays : (l : HostLane) → WorkerGoesOn stamp place l l
  worker_stays l = ([], sym (append-nil l.worker.entries), tt)

  inlet_stays : (i : CountedLane) → inlet_entry place access ≡ [] → InletGoesOn stamp who access place i i
  inlet_stays i none = stays_by (inlet_entry_of stamp who) i.history (inlet_entry place access) none

-- HOSTS

module _ (stamp : ℕ) (who : Actor) (e : HostState) where
  -- lists of which no history goes on
  boxes_stay : (access : Access) → ((place : ℕ) → box_entry place access ≡ []) → AtEachPlace (BoxGoesOn stamp who e.desk.here e.desk.desk.rows access) e.boxes e.boxes
  boxes_stay access none = each_same (BoxGoesOn stamp who e.desk.here e.desk.desk.rows access) (λ place b. box_stays stamp who access place e.desk.here e.desk.desk.rows b (none place)) e.boxes

  lanes_stay : (access : Access) → ((place : ℕ) → lane_entry place access ≡ []) → AtEachPlace (LaneGoesOn stamp who access) e.lanes e.lanes
  lanes_stay access none = each_same (LaneGoesOn stamp who access) (λ place l. lane_stays stamp who access place l (none place)) e.lanes

  workers_stay : AtEachPlace (WorkerGoesOn stamp) e.lanes e.lanes
  workers_stay = each_same (WorkerGoesOn stamp) (λ place l. worker_stays stamp who NoAccess place l) e.lanes

  inlets_stay : (access : Access) → ((place : ℕ) → inlet_entry place access ≡ []) → AtEachPlace (InletGoesOn stamp who access) e.inlets e.inlets
  inlets_stay access none = each_same (InletGoesOn stamp who access) (λ place i. inlet_stays stamp who access place i (none place)) e.inlets

  -- nothing is touched
  pub enters_nothing : Enters stamp who NoAccess e e
  enters_nothing = record {
    desk = sym (append-nil e.desk.history);
    boxes = boxes_stay NoAccess (λ place. refl);
    lanes = lanes_stay NoAccess (λ place. refl);
    workers = workers_stay;
    inlets = inlets_stay NoAccess (λ place. refl);
  }

  -- the desk is
  pub enters_desk : (entry : DeskEntry) → Enters stamp who (InDesk entry) e (record e { desk = entered stamp who entry e.desk })
  enters_desk entry = record {
    desk = refl;
    boxes = boxes_stay (InDesk entry) (λ place. refl);
    lanes = lanes_stay (InDesk entry) (λ place. refl);
    workers = workers_stay;
    inlets = inlets_stay (InDesk entry) (λ place. refl);
  }

  -- the mailbox, the lane or the inlet at a place is
  pub enters_box : (p : ℕ) (entry : BoxEntry (Mail Category)) (f : HostBox → HostBox)
      → ((b : HostBox) → slice_get e.boxes p ≡ Some b → (own : LocalEntry) × ((f b).mailbox.history ≡ b.mailbox.history ++ own ∷ []) × IsBoxEntryOf stamp who own × (plain_entry e.desk.here e.desk.desk.rows own ≡ entry))
      → Enters stamp who (InBox p entry) e (record e { boxes = at p f e.boxes })
  enters_box p entry f goes = record {
    desk = sym (append-nil e.desk.history);
    boxes = each_at (BoxGoesOn stamp who e.desk.here e.desk.desk.rows (InBox p entry)) p f e.boxes
        (λ b h.
        let g = goes b h in
        record { more = g.0 ∷ []; history = g.1; own = (g.2, tt); names = ap (λ (one : BoxEntry (Mail Category)). one ∷ []) g.3 ∙ sym (own_here entry p) })
        (λ place apart b. box_stays stamp who (InBox p entry) place e.desk.here e.desk.desk.rows b (own_elsewhere entry p place apart));
    lanes = lanes_stay (InBox p entry) (λ place. refl);
    workers = workers_stay;
    inlets = inlets_stay (InBox p entry) (λ place. refl);
  }

  pub enters_lane : (p : ℕ) (entry : LaneEntry PlainWaiting) (f : HostLane → HostLane)
      → ((l : HostLane) → slice_get e.lanes p ≡ Some l → ((f l).lane.history ≡ l.lane.history ++ lane_entry_of stamp who (lane_change entry) ∷ []) × ((f l).worker.entries ≡ l.worker.entries))
      → Enters stamp who (InLane p entry) e (record e { lanes = at p f e.lanes })
  enters_lane p entry f goes = record {
    desk = sym (append-nil e.desk.history);
    boxes = boxes_stay (InLane p entry) (λ place. refl);
    lanes = each_at (LaneGoesOn stamp who (InLane p entry)) p f e.lanes
        (λ l h. (goes l h).0 ∙ ap (λ es. l.lane.history ++ map (lane_entry_of stamp who) (map lane_change es)) (sym (own_here entry p)))
        (λ place apart l. lane_stays stamp who (InLane p entry) place l (own_elsewhere entry p place apart));
    workers = each_at (WorkerGoesOn stamp) p f e.lanes (λ l h. ([], (goes l h).1 ∙ sym (append-nil l.worker.entries), tt)) (λ place apart l. worker_stays stamp who NoAccess place l);
    inlets = inlets_stay (InLane p entry) (λ place. refl);
  }

  pub enters_inlet : (p : ℕ) (entry : InletEntry) (f : CountedLane → CountedLane)
      → ((i : CountedLane) → slice_get e.inlets p ≡ Some i → (f i).history ≡ i.history ++ inlet_entry_of stamp who entry ∷ [])
      → Enters stamp who (InInlet p entry) e (record e { inlets = at p f e.inlets })
  enters_inlet p entry f goes = record {
    desk = sym (append-nil e.desk.history);
    boxes = boxes_stay (InInlet p entry) (λ place. refl);
    lanes = lanes_stay (InInlet p entry) (λ place. refl);
    workers = workers_stay;
    inlets = each_at (InletGoesOn stamp who (InInlet p entry)) p f e.inlets
        (λ i h. goes i h ∙ ap (λ es. i.history ++ map (inlet_entry_of stamp who) es) (sym (own_here entry p)))
        (λ place apart i. inlet_stays stamp who (InInlet p entry) place i (own_elsewhere entry p place apart));
  }

-- by what is touched
pub enters_by : (stamp : ℕ) (who : Actor) (a b : Access) (e new : HostState) → a ≡ b → Enters stamp who b e new → Enters stamp who a e new
enters_by stamp who a b e new is enters = subst (λ (x : Access). Enters stamp who x e new) (sym is) enters

-- where nothing changed
pub enters_same : (stamp : ℕ) (who : Actor) (access : Access) (e new : HostState) → access ≡ NoAccess → new ≡ e → Enters stamp who access e new
enters_same stamp who access e new none same = enters_by stamp who access NoAccess e new none (subst (Enters stamp who NoAccess e) (sym same) (enters_nothing stamp who e))

-- beside what has no history: processes and connections
pub enters_beside : (stamp : ℕ) (who : Actor) (access : Access) (e new : HostState) (procs : List HostProcess) (conns : List Connection) → Enters stamp who access e new → Enters stamp who access e (record new { procs = procs; conns = conns })
enters_beside stamp who touch e new procs conns enters = record { desk = enters.desk; boxes = enters.boxes; lanes = enters.lanes; workers = enters.workers; inlets = enters.inlets }

-- WHERE NOTHING MAY BE THERE

-- by whether something is at a place
by_place : {X : Type 0} (P : Type 0) (xs : List X) (i : ℕ) → (slice_get xs i ≡ None → P) → ((x : X) → slice_get xs i ≡ Some x → P) → P
by_place {X} P xs i none some = go (slice_get xs i) refl
  where
    go : (o : Option X) → slice_get xs i ≡ o → P
    go None is = none is
    go (Some x) is = some x is

-- a change where nothing is
none_at : {X : Type 0} (i : ℕ) (f : X → X) (xs : List X) → slice_get xs i ≡ None → at i f xs ≡ xs
none_at i f xs none = at_still i f xs (λ x h. absurd (none_some x (sym none ∙ h)))

-- A MESSAGE THAT COMES TO A MAILBOX OR A LANE

module _ (here : PubKey) (rows : List Category) (room : ℕ) (m : LocalMessage) (waiting : List LocalMessage) where
  abbrev put_by_names : Bool → BoxEntry (Mail Category)
  put_by_names b = if b then PutIn (plain_mail here rows m) else FoundFull (plain_mail here rows m)

  put_both : (b : Bool) → plain_act here rows (act_of (if b then PutIn m else FoundFull m)) ≡ put_by_names b
  put_both true = refl
  put_both false = refl

  -- by the names it is the entry of the message by its names
  put_named : plain_act here rows (act_of (put_entry room m waiting)) ≡ put_entry room (plain_mail here rows m) (map (plain_mail here rows) waiting)
  put_named = put_both (nat_lt (length waiting) room) ∙ ap (λ (n : ℕ). put_by_names (nat_lt n room)) (sym (length-map waiting (plain_mail here rows)))

module _ (room from : ℕ) (m : Message) (waiting : List SentMessage) where
  abbrev plain_one : PlainWaiting
  plain_one = record { sender = from; message = m }

  admit_both : (b : Bool) → lane_change (if b then Queued plain_one else QueueFull plain_one) ≡ (if b then Queued (sent_by from m) else QueueFull (sent_by from m))
  admit_both true = refl
  admit_both false = refl

  admit_named : lane_change (admit_entry room plain_one (map plain_waiting waiting)) ≡ admit_entry room (sent_by from m) waiting
  admit_named =
      ap (λ (n : ℕ). lane_change (if nat_lt n room then Queued plain_one else QueueFull plain_one)) (length-map waiting plain_waiting)
      ∙ admit_both (nat_lt (length waiting) room)

-- a message that comes to a mailbox
module _ (stamp : ℕ) (who : Actor) (e : HostState) (i : ℕ) (m : LocalMessage) where
  abbrev box_by_names : HostBox → Mailbox
  box_by_names b = plain_box e.desk.here e.desk.desk.rows b

  abbrev mail : Mail Category
  mail = plain_mail e.desk.here e.desk.desk.rows m

  abbrev entry_by : HostBox → BoxEntry (Mail Category)
  entry_by b = put_entry b.mailbox.room mail (map (plain_mail e.desk.here e.desk.desk.rows) b.mailbox.waiting)

  abbrev put_touch : Access
  put_touch = put_access i (box_plan (site_of e) i).room mail (slice_get (host_of e).boxes i)

  abbrev after_put : HostState
  after_put = record e { boxes = at i (put_in stamp who m) e.boxes }

  pub enters_put : Enters stamp who put_touch e after_put
  enters_put = by_place (Enters stamp who put_touch e after_put) e.boxes i
      (λ none. enters_same stamp who put_touch e after_put
      (ap (put_access i (box_plan (site_of e) i).room mail) (slice_get-map box_by_names e.boxes i ∙ ap (option_map box_by_names) none))
      (ap (λ (boxes : List HostBox). record e { boxes = boxes }) (none_at i (put_in stamp who m) e.boxes none)))
      (λ b h. enters_by stamp who put_touch (InBox i (entry_by b)) e after_put
      (ap (put_access i (box_plan (site_of e) i).room mail) (slice_get-map box_by_names e.boxes i ∙ ap (option_map box_by_names) h)
      ∙ ap (λ (p : BoxPlan). InBox i (put_entry p.room mail (map (plain_mail e.desk.here e.desk.desk.rows) b.mailbox.waiting))) (box_planned e i b h))
      (enters_box stamp who e i (entry_by b) (put_in stamp who m) (λ x k. (
        box_entry_of stamp who (put_entry x.mailbox.room m x.mailbox.waiting),
        refl,
        (refl, refl),
        put_named e.desk.here e.desk.desk.rows x.mailbox.room m x.mailbox.waiting ∙ ap entry_by (some_is x b (sym k ∙ h)),
      ))))

-- a message that comes to a lane
module _ (stamp : ℕ) (who : Actor) (e : HostState) (i : ℕ) (m : Message) where
  abbrev sent : PlainWaiting
  sent = record { sender = who.index; message = m }

  abbrev admit_touch : Access
  admit_touch = admit_access i (lane_plan (site_of e) i).room sent (slice_get (host_of e).queues i)

  abbrev after_admitted : HostState
  after_admitted = record e { lanes = at i (admitted_lane stamp who m) e.lanes }

  lane_planned : (l : HostLane) → slice_get e.lanes i ≡ Some l → lane_plan (site_of e) i ≡ plan_of_lane l
  lane_planned l h = get_or_from_slice_get (map plan_of_lane e.lanes) i (plan_of_lane l) no_lane (slice_get-map plan_of_lane e.lanes i ∙ ap (option_map plan_of_lane) h)

  pub enters_admitted : Enters stamp who admit_touch e after_admitted
  enters_admitted = by_place (Enters stamp who admit_touch e after_admitted) e.lanes i
      (λ none. enters_same stamp who admit_touch e after_admitted
      (ap (admit_access i (lane_plan (site_of e) i).room sent) (slice_get-map plain_queue e.lanes i ∙ ap (option_map plain_queue) none))
      (ap (λ (lanes : List HostLane). record e { lanes = lanes }) (none_at i (admitted_lane stamp who m) e.lanes none)))
      (λ l h. enters_by stamp who admit_touch (InLane i (admit_entry l.lane.room sent (plain_queue l))) e after_admitted
      (ap (admit_access i (lane_plan (site_of e) i).room sent) (slice_get-map plain_queue e.lanes i ∙ ap (option_map plain_queue) h)
      ∙ ap (λ (p : LanePlan). InLane i (admit_entry p.room sent (plain_queue l))) (lane_planned l h))
      (enters_lane stamp who e i (admit_entry l.lane.room sent (plain_queue l)) (admitted_lane stamp who m) (λ x k. (
        ap (λ (one : LaneEntry SentMessage). x.lane.history ++ lane_entry_of stamp who one ∷ [])
            (sym (admit_named l.lane.room who.index m l.lane.waiting ∙ ap (λ (y : HostLane). admit_entry y.lane.room (sent_by who.index m) y.lane.waiting) (some_is l x (sym h ∙ k)))),
        refl,
      ))))

-- a number that comes to an inlet
module _ (stamp : ℕ) (who : Actor) (e : HostState) (i number : ℕ) where
  abbrev number_touch : Access
  number_touch = number_access i number (slice_get (host_of e).inlets i)

  abbrev after_number : HostState
  after_number = record e { inlets = at i (counted stamp who number) e.inlets }

  pub enters_number : Enters stamp who number_touch e after_number
  enters_number = by_place (Enters stamp who number_touch e after_number) e.inlets i
      (λ none. enters_same stamp who number_touch e after_number
      (ap (number_access i number) (slice_get-map plain_inlet e.inlets i ∙ ap (option_map plain_inlet) none))
      (ap (λ (inlets : List CountedLane). record e { inlets = inlets }) (none_at i (counted stamp who number) e.inlets none)))
      (λ x h. enters_by stamp who number_touch (InInlet i (number_entry number x.number)) e after_number
      (ap (number_access i number) (slice_get-map plain_inlet e.inlets i ∙ ap (option_map plain_inlet) h))
      (enters_inlet stamp who e i (number_entry number x.number) (counted stamp who number)
      (λ y k. ap (λ (z : CountedLane). y.history ++ inlet_entry_of stamp who (number_entry number z.number) ∷ []) (some_is y x (sym k ∙ h)))))

-- THE DESK, beside other connections

pub enters_at_desk : (stamp : ℕ) (who : Actor) (entry : DeskEntry) (e : HostState) (desk : DeskView) (conns : List Connection) → desk ≡ entered stamp who entry e.desk → Enters stamp who (InDesk entry) e (record e { desk = desk; conns = conns })
enters_at_desk stamp who entry e desk conns is =
    subst (λ (k : DeskView). Enters stamp who (InDesk entry) e (record e { desk = k; conns = conns })) (sym is)
    (enters_beside stamp who (InDesk entry) e (record e { desk = entered stamp who entry e.desk }) e.procs conns (enters_desk stamp who e entry))

-- LANES

-- the actor of the worker at a place
pub worker_is : (e : HostState) (place : ℕ) → IsFit e → (l : HostLane) → slice_get e.lanes place ≡ Some l → l.worker.who ≡ lane_actor e.host place
worker_is e place fit l h =
    let within : place < length e.lanes = slice_get_within e.lanes place l h in
    ap (λ (x : HostLane). x.worker.who) (sym (get_or_from_slice_get e.lanes place l l h)) ∙ fit.lane_actors place l within

module _ (stamp : ℕ) (who : Actor) where
  dropped_at : (rule : Rule) (hand : List SentMessage) → AllByRecursion (IsWorkerEntryAt stamp) (map (dropped_entry stamp rule) hand)
  dropped_at rule [] = tt
  dropped_at rule (w ∷ hand) = (refl, dropped_at rule hand)

  checked_worker : (place : ℕ) (rule : Option Rule) (l : HostLane) → WorkerGoesOn stamp place l (checked_as stamp rule l)
  checked_worker place None l = (framed_entry stamp l.worker.signing.next (length l.worker.hand) ∷ [], refl, (refl, tt))
  checked_worker place (Some rule) l = (map (dropped_entry stamp rule) l.worker.hand, refl, dropped_at rule l.worker.hand)

  checked_lane : (place : ℕ) (rule : Option Rule) (l : HostLane) → LaneGoesOn stamp who (InDesk Looked) place l (checked_as stamp rule l)
  checked_lane place None l = lane_stays stamp who (InDesk Looked) place l refl
  checked_lane place (Some rule) l = lane_stays stamp who (InDesk Looked) place l refl

  pub enters_checked : (place : ℕ) (rule : Option Rule) (e : HostState) → Enters stamp who (InDesk Looked) e (with_checked stamp place who rule e)
  enters_checked place rule e =
      let desk = enters_desk stamp who e Looked in
      record {
        desk = desk.desk;
        boxes = desk.boxes;
        lanes = each_at (LaneGoesOn stamp who (InDesk Looked)) place (checked_as stamp rule) e.lanes (λ l h. checked_lane place rule l) (λ j apart l. lane_stays stamp who (InDesk Looked) j l refl);
        workers = each_at (WorkerGoesOn stamp) place (checked_as stamp rule) e.lanes (λ l h. checked_worker place rule l) (λ j apart l. worker_stays stamp who NoAccess j l);
        inlets = desk.inlets;
      }

-- CLOCKS

abbrev tick_by : (to : ℕ) → Bool → Access
tick_by to b = if b then NoAccess else InDesk (Ticked to)

at_most : (to moment : ℕ) → to ≤ moment → nat_le to moment ≡ true
at_most to moment within = grind (arith, nat_tests)

above : (to moment : ℕ) → moment < to → nat_le to moment ≡ false
above to moment beyond = grind (arith, nat_tests)

pub ticks_none : (e : HostState) (to : ℕ) → to ≤ e.desk.desk.moment → tick_access to e ≡ NoAccess
ticks_none e to within = ap (tick_by to) (at_most to e.desk.desk.moment within)

pub ticks : (e : HostState) (to : ℕ) → e.desk.desk.moment < to → tick_access to e ≡ InDesk (Ticked to)
ticks e to beyond = ap (tick_by to) (above to e.desk.desk.moment beyond)

-- PROCESSES

pub steps_enter : (moved : Moved) (stamp p : ℕ) (e new : HostState) → Steps moved stamp p e new → Enters stamp (proc_actor e.host p) (step_access p e) e new
steps_enter Changed stamp p e new s = s.entered
steps_enter Still stamp p e new s = enters_same stamp (proc_actor e.host p) (step_access p e) e new s.2 s.0
