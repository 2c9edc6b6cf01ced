-- A change of one process.
use Rattle.std.proofs.Common.{◌≡◌, ℕ, ◌+◌, ◌<◌, ◌≤◌, List, Option, Some, None, length, slice_get, option_map, refl, sym, ap, ◌∙◌, subst}
use Rattle.std.specs.Prelude.{◌^◌, ◌↔◌, All, unwrap_or}
use Rattle.std.proofs.lemmas.Option.{slice_get-map}
use Rattle.ds_script.specs.declared.op.Op.{Op}
use Rattle.ds_script.specs.Inner.{Course}
use Rattle.ds_msg.specs.declared.message.Message.{Message}
use Rattle.ds_model.specs.Lists.{at}
use Rattle.ds_model.specs.World.{Process, Host}
use Rattle.ds_model.specs.ProcessStep.{ask_hand, ask_inner}
use Rattle.ds_model.specs.Step.{perform, step_proc}
use Rattle.ds_model.specs.Access.{NoAccess, access_of_ask, access_of_proc}
use Rattle.ds_model.proofs.Places.{at_here, at_still}
use Rattle.ds_exporter.specs.declared.moved.Moved.{Moved}
use Rattle.ds_exporter.proofs.Runs.{not_run}
use Rattle.ds_scheme.specs.TheScheme.{scheme}
use Rattle.ds_exporter.specs.HostStates.{HostProcess, HostState}
use Rattle.ds_exporter.specs.PlainHosts.{host_of, site_of, plain_process}
use Rattle.ds_exporter.specs.Conditions.{IsFit, Reaches, OpReaches, IsProcNamed, AreNumbered, HandHasLane, IsGoing, HasMore, IsOwned}
use Rattle.ds_exporter.specs.Running.{inside_of, ran_inside}
use Rattle.ds_exporter.specs.Entering.{step_access}
use Rattle.ds_exporter.specs.Stamping.{IsBefore}
use Rattle.ds_exporter.proofs.Places.{all_at, map_over_at, length_at, some_is, there_is}
use Rattle.ds_exporter.proofs.Stamps.{below_more}

-- what a process keeps of itself in a change: its script, and that its numbers have names, its usable names the table's
-- numbers, and its hand a lane
pub record Keeps (e : HostState) (x y : HostProcess) : Type 0 where
  pub script : y.process.script ≡ x.process.script
  pub named : IsProcNamed e.desk.here e.desk.desk.rows x → IsProcNamed e.desk.here e.desk.desk.rows y
  pub numbered : AreNumbered e.desk.here e.desk.desk.rows x → AreNumbered e.desk.here e.desk.desk.rows y
  pub hand : HandHasLane e.lanes x → HandHasLane e.lanes y
  pub going : IsGoing x → IsGoing y

abbrev pub with_proc : ℕ → (HostProcess → HostProcess) → HostState → HostState
with_proc p f e = record e { procs = at p f e.procs }

pub fits_proc : (e : HostState) (p : ℕ) (f : HostProcess → HostProcess) → IsFit e → ((x : HostProcess) → slice_get e.procs p ≡ Some x → Keeps e x (f x)) → IsFit (with_proc p f e)
fits_proc e p f fit keeps = record {
  desk = fit.desk;
  place = fit.place;
  few = subst (λ (n : ℕ). n ≤ 2 ^ 30) (sym (length_at p f e.procs)) fit.few;
  slots = fit.slots;
  lanes = fit.lanes;
  inlets = fit.inlets;
  owners = subst (λ (n : ℕ). All (IsOwned n) e.boxes) (sym (length_at p f e.procs)) fit.owners;
  scripts = all_at (Reaches (length e.keys)) p f e.procs (λ x h is. subst (λ (script : List Op). All (OpReaches (length e.keys)) script) (sym (keeps x h).script) is) fit.scripts;
  lane_actors = fit.lane_actors;
  conn_actors = fit.conn_actors;
  order = fit.order;
  certs = fit.certs;
  conns = fit.conns;
  named_procs = all_at (IsProcNamed e.desk.here e.desk.desk.rows) p f e.procs (λ x h is. (keeps x h).named is) fit.named_procs;
  named_boxes = fit.named_boxes;
  named_conns = fit.named_conns;
  usable = all_at (AreNumbered e.desk.here e.desk.desk.rows) p f e.procs (λ x h is. (keeps x h).numbered is) fit.usable;
  hands = all_at (HandHasLane e.lanes) p f e.procs (λ x h is. (keeps x h).hand is) fit.hands;
  going = all_at IsGoing p f e.procs (λ x h is. (keeps x h).going is) fit.going;
  passed = fit.passed;
  hellos = fit.hellos;
}

pub plan_proc : (e : HostState) (p : ℕ) (f : HostProcess → HostProcess) → site_of (with_proc p f e) ≡ site_of e
plan_proc e p f = ap (λ (n : ℕ). record (site_of e) { procs = n }) (length_at p f e.procs)

pub below_proc : (n : ℕ) (e : HostState) (p : ℕ) (f : HostProcess → HostProcess) → IsBefore n e → IsBefore (n + 1) (with_proc p f e)
below_proc n e p f b =
    let more = below_more n e b in
    record { desk = more.desk; boxes = more.boxes; lanes = more.lanes; inlets = more.inlets }

-- the host with another process there
pub host_proc : (e : HostState) (p : ℕ) (f : HostProcess → HostProcess) (next : Process) → ((x : HostProcess) → slice_get e.procs p ≡ Some x → plain_process e.desk.here e.desk.desk.rows (f x) ≡ next)
    → host_of (with_proc p f e) ≡ record (host_of e) { procs = at p (λ _. next) (host_of e).procs }
host_proc e p f next is = ap (λ (procs : List Process). record (host_of e) { procs = procs }) (map_over_at (plain_process e.desk.here e.desk.desk.rows) p f (λ _. next) e.procs is)

-- AN OPERATION INSIDE THE PROCESS

pub keeps_ran : (e : HostState) (x : HostProcess) → x.hand ≡ None → Keeps e x (ran_inside x)
keeps_ran e x free = record { script = refl; named = λ n. n; numbered = λ n. n; hand = λ h. h; going = λ g. subst (λ (o : Option Message). HasMore o (ran_inside x).process.course.place (length x.process.script)) (sym free) tt }

module _ (e : HostState) (p : ℕ) (x : HostProcess) (stands : slice_get e.procs p ≡ Some x) (free : x.hand ≡ None) where
  only : (y : HostProcess) → slice_get e.procs p ≡ Some y → y ≡ x
  only y h = some_is y x (sym h ∙ stands)

  abbrev seen : Process
  seen = plain_process e.desk.here e.desk.desk.rows x

  -- what is asked of the process there, whose hand is empty
  pub asks_inner : step_proc scheme (site_of e) (host_of e) p (slice_get (host_of e).procs p) ≡ perform scheme (site_of e) (host_of e) p (ask_inner (site_of e) p seen (inside_of x))
  asks_inner =
      ap (step_proc scheme (site_of e) (host_of e) p) (slice_get-map (plain_process e.desk.here e.desk.desk.rows) e.procs p ∙ ap (option_map (plain_process e.desk.here e.desk.desk.rows)) stands)
      ∙ ap (λ (hand : Option Message). perform scheme (site_of e) (host_of e) p (ask_hand (site_of e) p seen hand)) free

  pub runs : (course : Course) → inside_of x ≡ Some course → host_of (with_proc p ran_inside e) ≡ step_proc scheme (site_of e) (host_of e) p (slice_get (host_of e).procs p)
  runs course some =
      host_proc e p ran_inside (record seen { course = course }) (λ y h. subst (λ (z : HostProcess). plain_process e.desk.here e.desk.desk.rows (ran_inside z) ≡ record seen { course = course }) (sym (only y h))
      (ap (λ (o : Option Course). record seen { course = unwrap_or o x.process.course }) some))
      ∙ sym (asks_inner ∙ ap (λ (o : Option Course). perform scheme (site_of e) (host_of e) p (ask_inner (site_of e) p seen o)) some)

  -- it touches nothing
  pub touches_none : (course : Course) → inside_of x ≡ Some course → step_access p e ≡ NoAccess
  touches_none course some =
      ap (access_of_proc scheme (site_of e) (host_of e) p) (slice_get-map (plain_process e.desk.here e.desk.desk.rows) e.procs p ∙ ap (option_map (plain_process e.desk.here e.desk.desk.rows)) stands)
      ∙ (ap (λ (hand : Option Message). access_of_ask scheme (site_of e) (host_of e) p (ask_hand (site_of e) p seen hand)) free
      ∙ ap (λ (o : Option Course). access_of_ask scheme (site_of e) (host_of e) p (ask_inner (site_of e) p seen o)) some)

  pub still_ran : ran_inside x ≡ x → with_proc p ran_inside e ≡ e
  still_ran same = ap (λ (procs : List HostProcess). record e { procs = procs }) (at_still p ran_inside e.procs (λ y h. subst (λ (z : HostProcess). ran_inside z ≡ z) (sym (only y h)) same))

  course_or : Option Process → Course
  course_or None = x.process.course
  course_or (Some y) = y.course

  pub moved_back : host_of (with_proc p ran_inside e) ≡ host_of e → ran_inside x ≡ x
  unfolding course_or
  moved_back same =
      let after : slice_get (host_of (with_proc p ran_inside e)).procs p ≡ Some (plain_process e.desk.here e.desk.desk.rows (ran_inside x)) =
      slice_get-map (plain_process e.desk.here e.desk.desk.rows) (at p ran_inside e.procs) p ∙ ap (option_map (plain_process e.desk.here e.desk.desk.rows)) (at_here p ran_inside e.procs ∙ ap (option_map ran_inside) stands) in
      let before : slice_get (host_of e).procs p ≡ Some seen = slice_get-map (plain_process e.desk.here e.desk.desk.rows) e.procs p ∙ ap (option_map (plain_process e.desk.here e.desk.desk.rows)) stands in
      let course : unwrap_or (inside_of x) x.process.course ≡ x.process.course = ap course_or (sym after) ∙ (ap (λ (y : Host). course_or (slice_get y.procs p)) same ∙ ap course_or before) in
      ap (λ (c : Course). record x { process = record x.process { course = c } }) course

-- what the code's answer says
module _ (e : HostState) (p : ℕ) (within : p < length e.procs) (free : (x : HostProcess) → slice_get e.procs p ≡ Some x → x.hand ≡ None) (ran : Option Moved)
    (outer : (x : HostProcess) → slice_get e.procs p ≡ Some x → (ran ≡ None) ↔ (inside_of x ≡ None)) where
  pub ran_host : (ran ≡ None → ⊥) → host_of (with_proc p ran_inside e) ≡ step_proc scheme (site_of e) (host_of e) p (slice_get (host_of e).procs p)
  ran_host some = there_is (host_of (with_proc p ran_inside e) ≡ step_proc scheme (site_of e) (host_of e) p (slice_get (host_of e).procs p)) e.procs p within (λ x h. go x h (inside_of x) refl)
    where
      go : (x : HostProcess) → slice_get e.procs p ≡ Some x → (o : Option Course) → inside_of x ≡ o → host_of (with_proc p ran_inside e) ≡ step_proc scheme (site_of e) (host_of e) p (slice_get (host_of e).procs p)
      go x h None is = absurd (some ((outer x h).1 is))
      go x h (Some course) is = runs e p x h (free x h) course is

  pub ran_touches : (ran ≡ None → ⊥) → step_access p e ≡ NoAccess
  ran_touches some = there_is (step_access p e ≡ NoAccess) e.procs p within (λ x h. go x h (inside_of x) refl)
    where
      go : (x : HostProcess) → slice_get e.procs p ≡ Some x → (o : Option Course) → inside_of x ≡ o → step_access p e ≡ NoAccess
      go x h None is = absurd (some ((outer x h).1 is))
      go x h (Some course) is = touches_none e p x h (free x h) course is

  pub ran_none : ran ≡ None → with_proc p ran_inside e ≡ e
  ran_none none = there_is (with_proc p ran_inside e ≡ e) e.procs p within (λ x h. still_ran e p x h (free x h) (sym (not_run x ((outer x h).0 none))))

  pub ran_still : ((x : HostProcess) → slice_get e.procs p ≡ Some x → ran_inside x ≡ x) → with_proc p ran_inside e ≡ e
  ran_still same = there_is (with_proc p ran_inside e ≡ e) e.procs p within (λ x h. still_ran e p x h (free x h) (same x h))

  pub ran_changed : ((x : HostProcess) → slice_get e.procs p ≡ Some x → ran_inside x ≡ x → ⊥) → host_of (with_proc p ran_inside e) ≡ host_of e → ⊥
  ran_changed moved same = there_is ⊥ e.procs p within (λ x h. moved x h (moved_back e p x h (free x h) same))
