use Rattle.std.proofs.Common.{◌≡◌, Some, None, sym, ap, ◌∙◌, subst, slice_get}
use Rattle.ds_model.specs.Step.{step_proc}
use Rattle.ds_scheme.specs.TheScheme.{scheme}
use Rattle.ds_exporter.specs.HostStates.{HostProcess, HostState, state_of}
use Rattle.ds_exporter.specs.PlainHosts.{host_of, site_of}
use Rattle.ds_model.specs.Lists.{at}
use Rattle.ds_model.specs.Access.{NoAccess}
use Rattle.ds_exporter.specs.Entering.{Enters, step_access}
use Rattle.ds_exporter.specs.Stepping.{proc_actor}
use Rattle.ds_exporter.specs.Running.{inside_of, ran_inside}
use Rattle.ds_exporter.proofs.Entering.{enters_beside, enters_by, enters_nothing}
use Rattle.ds_exporter.proofs.OneProc.{with_proc, fits_proc, keeps_ran, plan_proc, ran_host, ran_none, ran_still, ran_changed, ran_touches}
use Rattle.ds_exporter.proofs.exporter.Exporter.step_inside.Goals as goal

pub invariant_of-self-2 : goal.invariant_of-self-2
invariant_of-self-2 c =
    let e = state_of c.self.inside.parts in
    let free = rw (← c.self.view_is) at c.requires.free in
    rw c.in_ok-ran.ensures.ok (fits_proc e c.args.place ran_inside c.self.invariant (λ x h. keeps_ran e x (free x h)))

pub returns-clause-host : goal.returns-clause-host
returns-clause-host c =
    let e = state_of c.self.inside.parts in
    let whole : state_of (record c.self.inside.parts { procs = c.run_at.new.procs }) ≡ with_proc c.args.place ran_inside e = λ i. record e { procs = c.in_ok-ran.ensures.ok i } in
    let within = rw (← c.self.view_is) at c.requires.place in
    let free = rw (← c.self.view_is) at c.requires.free in
    λ some. subst (λ (s : HostState). host_of s ≡ step_proc scheme (site_of c.args.self.now) (host_of c.args.self.now) c.args.place (slice_get (host_of c.args.self.now).procs c.args.place)) (sym whole)
    (subst (λ (s : HostState). host_of (with_proc c.args.place ran_inside e) ≡ step_proc scheme (site_of s) (host_of s) c.args.place (slice_get (host_of s).procs c.args.place)) c.self.view_is
    (ran_host e c.args.place within free c.in_ok-ran.ran (λ x h. c.in_ok-ran.ensures.outer x h) some))

pub returns-clause-outer : goal.returns-clause-outer
returns-clause-outer c =
    let e = state_of c.self.inside.parts in
    let whole : state_of (record c.self.inside.parts { procs = c.run_at.new.procs }) ≡ with_proc c.args.place ran_inside e = λ i. record e { procs = c.in_ok-ran.ensures.ok i } in
    let within = rw (← c.self.view_is) at c.requires.place in
    let free = rw (← c.self.view_is) at c.requires.free in
    let outer : (x : HostProcess) → slice_get e.procs c.args.place ≡ Some x → inside_of x ≡ None → c.in_ok-ran.ran ≡ None = λ x h. (c.in_ok-ran.ensures.outer x h).1 in
    λ none. (
      whole ∙ (ran_none e c.args.place within free c.in_ok-ran.ran (λ x h. c.in_ok-ran.ensures.outer x h) none ∙ c.self.view_is),
      subst (λ (s : HostState). (x : HostProcess) → slice_get s.procs c.args.place ≡ Some x → inside_of x ≡ None) c.self.view_is (λ x h. (c.in_ok-ran.ensures.outer x h).0 none),
    )

pub returns-clause-still : goal.returns-clause-still
returns-clause-still c =
    let e = state_of c.self.inside.parts in
    let whole : state_of (record c.self.inside.parts { procs = c.run_at.new.procs }) ≡ with_proc c.args.place ran_inside e = λ i. record e { procs = c.in_ok-ran.ensures.ok i } in
    let within = rw (← c.self.view_is) at c.requires.place in
    let free = rw (← c.self.view_is) at c.requires.free in
    λ still. whole ∙ (ran_still e c.args.place within free c.in_ok-ran.ran (λ x h. c.in_ok-ran.ensures.outer x h) (λ x h. c.in_ok-ran.ensures.still x h still) ∙ c.self.view_is)

pub returns-clause-changed : goal.returns-clause-changed
returns-clause-changed c =
    let e = state_of c.self.inside.parts in
    let whole : state_of (record c.self.inside.parts { procs = c.run_at.new.procs }) ≡ with_proc c.args.place ran_inside e = λ i. record e { procs = c.in_ok-ran.ensures.ok i } in
    let within = rw (← c.self.view_is) at c.requires.place in
    let free = rw (← c.self.view_is) at c.requires.free in
    λ changed. λ same. ran_changed e c.args.place within free c.in_ok-ran.ran (λ x h. c.in_ok-ran.ensures.outer x h) (λ x h. c.in_ok-ran.ensures.changed x h changed)
    (ap host_of (sym whole) ∙ (same ∙ ap host_of (sym c.self.view_is)))

pub returns-clause-site : goal.returns-clause-site
returns-clause-site c =
    let e = state_of c.self.inside.parts in
    let whole : state_of (record c.self.inside.parts { procs = c.run_at.new.procs }) ≡ with_proc c.args.place ran_inside e = λ i. record e { procs = c.in_ok-ran.ensures.ok i } in
    ap site_of whole ∙ (plan_proc e c.args.place ran_inside ∙ ap site_of c.self.view_is)

pub returns-clause-entered : goal.returns-clause-entered
returns-clause-entered c =
    let e = state_of c.self.inside.parts in
    let whole : state_of (record c.self.inside.parts { procs = c.run_at.new.procs }) ≡ with_proc c.args.place ran_inside e = λ i. record e { procs = c.in_ok-ran.ensures.ok i } in
    let within = rw (← c.self.view_is) at c.requires.place in
    let free = rw (← c.self.view_is) at c.requires.free in
    λ some. subst (λ (s : HostState). Enters c.args.stamp (proc_actor c.args.self.now.host c.args.place) (step_access c.args.place c.args.self.now) c.args.self.now s) (sym whole)
    (subst (λ (s : HostState). Enters c.args.stamp (proc_actor s.host c.args.place) (step_access c.args.place s) s (with_proc c.args.place ran_inside e)) c.self.view_is
    (enters_by c.args.stamp (proc_actor e.host c.args.place) (step_access c.args.place e) NoAccess e (with_proc c.args.place ran_inside e)
    (ran_touches e c.args.place within free c.in_ok-ran.ran (λ x h. c.in_ok-ran.ensures.outer x h) some)
    (enters_beside c.args.stamp (proc_actor e.host c.args.place) NoAccess e e (at c.args.place ran_inside e.procs) e.conns (enters_nothing c.args.stamp (proc_actor e.host c.args.place) e))))
