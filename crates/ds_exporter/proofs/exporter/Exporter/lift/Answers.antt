use Rattle.std.proofs.Common.{◌≡◌, refl, ap, slice_get}
use Rattle.ds_model.specs.Step.{step_lane}
use Rattle.ds_scheme.specs.TheScheme.{scheme}
use Rattle.ds_exporter.specs.HostStates.{state_of}
use Rattle.ds_exporter.specs.PlainHosts.{host_of, site_of}
use Rattle.ds_exporter.specs.Lifting.{lifted_lane}
use Rattle.ds_exporter.specs.Conditions.{IsLaneOf}
use Rattle.ds_exporter.specs.Stamping.{IsLaneBefore}
use Rattle.ds_map.proofs.Sets.{true_false}
use Rattle.ds_exporter.proofs.Places.{all_get, there_is}
use Rattle.ds_exporter.proofs.OneLane.{with_lane, fits_lane, keeps_lifted, plan_lane, below_lane, below_lifted, lifts, still_lifted, hand_moved, lift_enters}
use Rattle.ds_exporter.proofs.exporter.Exporter.lift.Goals as goal

pub lift_at-requires-clause-ready : goal.lift_at-requires-clause-ready
lift_at-requires-clause-ready c =
    let e = state_of c.self.inside.parts in
    let empty = rw (← c.self.view_is) at c.requires.empty in
    let below = rw (← c.self.view_is) at c.requires.later in
    λ l h. (empty l h, (all_get (IsLaneBefore c.args.stamp) e.lanes c.args.place l below.lanes h).last, (all_get (IsLaneOf e.desk.here) e.lanes c.args.place l c.self.invariant.certs h).one)

pub invariant_of-self-then-branch : goal.invariant_of-self-then-branch
invariant_of-self-then-branch c =
    let e = state_of c.self.inside.parts in
    rw c.in_ok-lift_at.ensures.ok (fits_lane e c.args.place (lifted_lane c.args.stamp) c.self.invariant (λ l h. keeps_lifted c.args.stamp l))

pub returns-then-branch-clause-ok : goal.returns-then-branch-clause-ok
returns-then-branch-clause-ok c =
    let e = state_of c.self.inside.parts in
    let empty = rw (← c.self.view_is) at c.requires.empty in
    let within = rw (← c.self.view_is) at c.requires.place in (
      rw (c.in_ok-lift_at.ensures.ok, ← c.self.view_is)
          (there_is (host_of (with_lane c.args.place (lifted_lane c.args.stamp) e) ≡ step_lane scheme (site_of e) (host_of e) c.args.place (slice_get (host_of e).workers c.args.place)) e.lanes c.args.place within
          (λ l h. lifts e c.args.place l h (empty l h) c.args.stamp)),
      (
        λ still. absurd cc,
        λ same. absurd (there_is ⊥ e.lanes c.args.place within (λ l h.
            true_false c.in_ok-lift_at.field-0 c.if-branch.true ((c.in_ok-lift_at.ensures.held l h).1 (hand_moved e c.args.place l h (empty l h) c.args.stamp (rw (c.in_ok-lift_at.ensures.ok, ← c.self.view_is) at same))))),
      ),
    )

pub returns-then-branch-clause-site : goal.returns-then-branch-clause-site
returns-then-branch-clause-site c =
    let e = state_of c.self.inside.parts in
    rw (c.in_ok-lift_at.ensures.ok, ← c.self.view_is) (plan_lane e c.args.place (lifted_lane c.args.stamp) (λ l h. keeps_lifted c.args.stamp l))

pub returns-then-branch-clause-stamps : goal.returns-then-branch-clause-stamps
returns-then-branch-clause-stamps c =
    let e = state_of c.self.inside.parts in
    let below = rw (← c.self.view_is) at c.requires.later in
    rw c.in_ok-lift_at.ensures.ok (below_lane c.args.stamp e c.args.place (lifted_lane c.args.stamp) (λ l h. below_lifted c.args.stamp l) below)

pub invariant_of-self-2 : goal.invariant_of-self-2
invariant_of-self-2 c =
    let e = state_of c.self.inside.parts in
    rw c.in_ok-lift_at.ensures.ok (fits_lane e c.args.place (lifted_lane c.args.stamp) c.self.invariant (λ l h. keeps_lifted c.args.stamp l))

pub returns-clause-ok : goal.returns-clause-ok
returns-clause-ok c =
    let e = state_of c.self.inside.parts in
    let empty = rw (← c.self.view_is) at c.requires.empty in
    let within = rw (← c.self.view_is) at c.requires.place in (
      rw (c.in_ok-lift_at.ensures.ok, ← c.self.view_is)
          (there_is (host_of (with_lane c.args.place (lifted_lane c.args.stamp) e) ≡ step_lane scheme (site_of e) (host_of e) c.args.place (slice_get (host_of e).workers c.args.place)) e.lanes c.args.place within
          (λ l h. lifts e c.args.place l h (empty l h) c.args.stamp)),
      (
        λ still. rw (c.in_ok-lift_at.ensures.ok, ← c.self.view_is) (there_is (host_of (with_lane c.args.place (lifted_lane c.args.stamp) e) ≡ host_of e) e.lanes c.args.place within (λ l h.
            ap host_of (still_lifted e c.args.place l h (empty l h) c.args.stamp ((c.in_ok-lift_at.ensures.held l h).0 c.if-branch.false)))),
        λ same. refl,
      ),
    )

pub returns-clause-still : goal.returns-clause-still
returns-clause-still c =
    let e = state_of c.self.inside.parts in
    let empty = rw (← c.self.view_is) at c.requires.empty in
    let within = rw (← c.self.view_is) at c.requires.place in
    λ still. rw (c.in_ok-lift_at.ensures.ok, ← c.self.view_is) (there_is (with_lane c.args.place (lifted_lane c.args.stamp) e ≡ e) e.lanes c.args.place within (λ l h.
    still_lifted e c.args.place l h (empty l h) c.args.stamp ((c.in_ok-lift_at.ensures.held l h).0 c.if-branch.false)))

pub returns-clause-site : goal.returns-clause-site
returns-clause-site c =
    let e = state_of c.self.inside.parts in
    rw (c.in_ok-lift_at.ensures.ok, ← c.self.view_is) (plan_lane e c.args.place (lifted_lane c.args.stamp) (λ l h. keeps_lifted c.args.stamp l))

pub returns-clause-stamps : goal.returns-clause-stamps
returns-clause-stamps c =
    let e = state_of c.self.inside.parts in
    let below = rw (← c.self.view_is) at c.requires.later in
    rw c.in_ok-lift_at.ensures.ok (below_lane c.args.stamp e c.args.place (lifted_lane c.args.stamp) (λ l h. below_lifted c.args.stamp l) below)

pub returns-then-branch-clause-entered : goal.returns-then-branch-clause-entered
returns-then-branch-clause-entered c =
    let e = state_of c.self.inside.parts in
    let empty = rw (← c.self.view_is) at c.requires.empty in
    let within = rw (← c.self.view_is) at c.requires.place in
    rw (c.in_ok-lift_at.ensures.ok, ← c.self.view_is) (lift_enters e c.args.place c.args.stamp c.self.invariant within (λ l h. empty l h))

pub returns-clause-entered : goal.returns-clause-entered
returns-clause-entered c =
    let e = state_of c.self.inside.parts in
    let empty = rw (← c.self.view_is) at c.requires.empty in
    let within = rw (← c.self.view_is) at c.requires.place in
    rw (c.in_ok-lift_at.ensures.ok, ← c.self.view_is) (lift_enters e c.args.place c.args.stamp c.self.invariant within (λ l h. empty l h))
