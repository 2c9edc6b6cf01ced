-- A step of one process.
use Rattle.std.proofs.Common.{◌≡◌, ℕ, ◌+◌, ◌<◌, List, Option, Some, None, length, slice_get, option_map, refl, sym, ap, ◌∙◌, subst, arith}
use Rattle.std.proofs.lemmas.Option.{slice_get-map}
use Rattle.ds_label.specs.declared.rule.Rule.{Rule}
use Rattle.ds_script.specs.declared.note.Note.TheVariants as notes
use Rattle.ds_msg.specs.declared.message.Message.{Message}
use Rattle.ds_model.specs.Lists.{at}
use Rattle.ds_model.specs.World.{Process, Host}
use Rattle.ds_model.specs.ProcessStep.{Ask, Waits, refused, noted}
use Rattle.ds_model.specs.Step.{perform, step_proc}
use Rattle.ds_model.specs.Access.{NoAccess, access_of_ask, access_of_proc}
use Rattle.ds_model.proofs.Places.{at_here}
use Rattle.ds_scheme.specs.TheScheme.{scheme}
use Rattle.ds_exporter.specs.declared.moved.Moved.{Moved}
use Rattle.ds_exporter.specs.HostStates.{HostProcess, HostState}
use Rattle.ds_exporter.specs.PlainHosts.{host_of, site_of, plain_process}
use Rattle.ds_exporter.specs.Conditions.{IsFit, HasMore}
use Rattle.ds_exporter.specs.Stamping.{IsBefore, IsUpTo}
use Rattle.ds_exporter.specs.Entering.{step_access}
use Rattle.ds_exporter.specs.Stepping.{Asks, IsFree, IsStepped, Steps, always, next_host, proc_actor, refused_proc}
use Rattle.ds_exporter.proofs.Entering.{enters_beside, enters_by, enters_nothing}
use Rattle.ds_exporter.proofs.Places.{length_at, map_over_at, some_is, there_is}
use Rattle.ds_exporter.proofs.Stamps.{below_more}
use Rattle.ds_exporter.proofs.OneProc.{with_proc, fits_proc}

-- A CHANGE OF A PROCESS BY NAMES

pub host_by : (e : HostState) (p : ℕ) (f : HostProcess → HostProcess) (h : Process → Process)
    → ((x : HostProcess) → slice_get e.procs p ≡ Some x → plain_process e.desk.here e.desk.desk.rows (f x) ≡ h (plain_process e.desk.here e.desk.desk.rows x))
    → host_of (with_proc p f e) ≡ record (host_of e) { procs = at p h (host_of e).procs }
host_by e p f h is = ap (λ (procs : List Process). record (host_of e) { procs = procs }) (map_over_at (plain_process e.desk.here e.desk.desk.rows) p f h e.procs is)

pub site_proc : (e : HostState) (p : ℕ) (f : HostProcess → HostProcess) → site_of (with_proc p f e) ≡ site_of e
site_proc e p f = ap (λ (n : ℕ). record (site_of e) { procs = n }) (length_at p f e.procs)

-- processes have no stamps
pub below_proc : (n : ℕ) (e : HostState) (procs : List HostProcess) → IsBefore n e → IsUpTo n (record e { procs = procs })
below_proc n e procs b =
    let more = below_more n e b in
    record { desk = more.desk; boxes = more.boxes; lanes = more.lanes; inlets = more.inlets }

abbrev place_or : Option Process → ℕ
place_or None = 0
place_or (Some y) = y.course.place

not_same : (n m : ℕ) → m ≡ n + 1 → m ≡ n → ⊥
not_same n m p q = omega (arith, p, q)

-- one that moved on is another one by names
pub moved_on : (e new : HostState) (p : ℕ) (x y : HostProcess) → slice_get e.procs p ≡ Some x → slice_get new.procs p ≡ Some y
    → y.process.course.place ≡ x.process.course.place + 1 → host_of new ≡ host_of e → ⊥
moved_on e new p x y was is next same =
    let before : slice_get (host_of e).procs p ≡ Some (plain_process e.desk.here e.desk.desk.rows x)
    = slice_get-map (plain_process e.desk.here e.desk.desk.rows) e.procs p ∙ ap (option_map (plain_process e.desk.here e.desk.desk.rows)) was in
    let after : slice_get (host_of new).procs p ≡ Some (plain_process new.desk.here new.desk.desk.rows y)
    = slice_get-map (plain_process new.desk.here new.desk.desk.rows) new.procs p ∙ ap (option_map (plain_process new.desk.here new.desk.desk.rows)) is in
    not_same x.process.course.place y.process.course.place next
    (ap place_or (sym after) ∙ (ap (λ (h : Host). place_or (slice_get h.procs p)) same ∙ ap place_or before))

-- WHAT THE PLAIN WORLD PERFORMS

module _ (e : HostState) (p : ℕ) (x : HostProcess) (stands : slice_get e.procs p ≡ Some x) where
  abbrev pub seen : Process
  seen = plain_process e.desk.here e.desk.desk.rows x

  pub only : (y : HostProcess) → slice_get e.procs p ≡ Some y → y ≡ x
  only y h = some_is y x (sym h ∙ stands)

  pub performs : (asked : Process → Ask) → Asks p e asked → next_host p e ≡ perform scheme (site_of e) (host_of e) p (asked seen)
  performs asked asks =
      ap (step_proc scheme (site_of e) (host_of e) p) (slice_get-map (plain_process e.desk.here e.desk.desk.rows) e.procs p ∙ ap (option_map (plain_process e.desk.here e.desk.desk.rows)) stands)
      ∙ ap (perform scheme (site_of e) (host_of e) p) (asks x stands)

  -- and what it touches
  pub touches : (asked : Process → Ask) → Asks p e asked → step_access p e ≡ access_of_ask scheme (site_of e) (host_of e) p (asked seen)
  touches asked asks =
      ap (access_of_proc scheme (site_of e) (host_of e) p) (slice_get-map (plain_process e.desk.here e.desk.desk.rows) e.procs p ∙ ap (option_map (plain_process e.desk.here e.desk.desk.rows)) stands)
      ∙ ap (access_of_ask scheme (site_of e) (host_of e) p) (asks x stands)

  -- what stands there after a change of it
  pub becomes : (f : HostProcess → HostProcess) → slice_get (at p f e.procs) p ≡ Some (f x)
  becomes f = at_here p f e.procs ∙ ap (option_map f) stands

-- THE RECORD OF A STEP

-- a host that is the same was stepped from as that one was
pub steps_from : (moved : Moved) (stamp p : ℕ) (e new later : HostState) → new ≡ e → Steps moved stamp p new later → Steps moved stamp p e later
steps_from moved stamp p e new later same s = subst (λ (y : HostState). Steps moved stamp p y later) same s

pub stepped_from : (stamp p : ℕ) (e new later : HostState) → new ≡ e → IsStepped stamp p new later → IsStepped stamp p e later
stepped_from stamp p e new later same s = subst (λ (y : HostState). IsStepped stamp p y later) same s

-- REFUSED OPERATIONS

-- with an empty hand a process may be at any place
pub no_hand_more : (hand : Option Message) (place size : ℕ) → hand ≡ None → HasMore hand place size
no_hand_more hand place size none = subst (λ (o : Option Message). HasMore o place size) (sym none) tt

module _ (e : HostState) (p : ℕ) (rule : Rule) (within : p < length e.procs) (free : IsFree p e) where
  abbrev pub with_refused : HostState
  with_refused = with_proc p (refused_proc rule) e

  pub fits_refused : IsFit e → IsFit with_refused
  fits_refused fit = fits_proc e p (refused_proc rule) fit
      (λ x h. record { script = refl; named = λ n. n; numbered = λ n. n; hand = λ l. l; going = λ g. no_hand_more x.hand (refused_proc rule x).process.course.place (length x.process.script) (free x h).0 })

  pub stepped_refused : Asks p e (refused rule) → (stamp : ℕ) → IsBefore stamp e → IsStepped stamp p e with_refused
  stepped_refused asks stamp below = there_is (IsStepped stamp p e with_refused) e.procs p within (λ x h. record {
    host = host_by e p (refused_proc rule) (λ _. noted (notes.Refused rule) (seen e p x h))
        (λ y there. ap (λ (z : HostProcess). noted (notes.Refused rule) (plain_process e.desk.here e.desk.desk.rows z)) (only e p x h y there))
        ∙ sym (performs e p x h (refused rule) asks);
    changed = moved_on e with_refused p x (refused_proc rule x) h (becomes e p x h (refused_proc rule)) refl;
    site = site_proc e p (refused_proc rule);
    conns = refl;
    named = λ link place. refl;
    stamps = below_proc stamp e (at p (refused_proc rule) e.procs) below;
    entered = enters_by stamp (proc_actor e.host p) (step_access p e) NoAccess e with_refused (touches e p x h (refused rule) asks)
        (enters_beside stamp (proc_actor e.host p) NoAccess e e (at p (refused_proc rule) e.procs) e.conns (enters_nothing stamp (proc_actor e.host p) e));
  })

-- NOTHING TO DO

pub waits_still : (e : HostState) (p : ℕ) → p < length e.procs → Asks p e (always Waits) → (host_of e ≡ next_host p e) × (step_access p e ≡ NoAccess)
waits_still e p within asks = there_is ((host_of e ≡ next_host p e) × (step_access p e ≡ NoAccess)) e.procs p within (λ x h. (sym (performs e p x h (always Waits) asks), touches e p x h (always Waits) asks))
