use Rattle.std.proofs.Common.{◌≡◌, ◌≤◌, sym, ap, ◌∙◌, subst, slice_get}
use Rattle.ds_model.specs.Desk.{Looked}
use Rattle.ds_model.specs.Desk.{Desk}
use Rattle.ds_model.specs.Access.{InDesk}
use Rattle.ds_desk.specs.declared.state.DeskState.{DeskState}
use Rattle.ds_desk.specs.Desks.{DeskView, IsReplay, kept_of, desk_of, entered}
use Rattle.ds_model.specs.Step.{step_lane}
use Rattle.ds_scheme.specs.TheScheme.{scheme}
use Rattle.ds_exporter.specs.HostStates.{HostState, state_of}
use Rattle.ds_exporter.specs.PlainHosts.{host_of, site_of}
use Rattle.ds_exporter.specs.Checking.{lane_rule, with_checked}
use Rattle.ds_exporter.specs.Stamping.{last_of_desk}
use Rattle.ds_exporter.proofs.CheckedHosts.{fits_checked, plan_checked, below_with_checked, checked_host_is, checked_host_moved, checked_touches}
use Rattle.ds_script.specs.declared.actor.Actor.{Actor}
use Rattle.ds_exporter.specs.Conditions.{lane_actor}
use Rattle.ds_exporter.specs.Entering.{Enters, frame_access}
use Rattle.ds_exporter.proofs.Places.{there_is}
use Rattle.ds_exporter.proofs.Entering.{enters_by, enters_checked, worker_is}
use Rattle.ds_exporter.proofs.exporter.Exporter.check.Goals as goal

pub invariant_of-self-2 : goal.invariant_of-self-2
invariant_of-self-2 g c =
    let e = state_of c.self.inside.parts in
    let desk : kept_of c.look.new.self ≡ entered c.args.stamp c.worker_at-who.result Looked (kept_of c.self.inside.parts.desk) = c.look.ensures.entry ∙ ap (λ (d : DeskState). entered c.args.stamp c.worker_at-who.result Looked (kept_of d)) c.in_ok-rule.ensures.same ∙ ap (entered c.args.stamp c.worker_at-who.result Looked) c.in_ok-reserve.ensures.same in
    rw (desk, c.in_ok-settle_at.ensures.ok) (fits_checked e c.args.stamp c.args.place c.worker_at-who.result c.in_ok-rule.rule c.self.invariant (subst IsReplay desk c.look.ensures.kept))

pub returns-clause-host : goal.returns-clause-host
returns-clause-host g c =
    let e = state_of c.self.inside.parts in
    let desk : kept_of c.look.new.self ≡ entered c.args.stamp c.worker_at-who.result Looked (kept_of c.self.inside.parts.desk) = c.look.ensures.entry ∙ ap (λ (d : DeskState). entered c.args.stamp c.worker_at-who.result Looked (kept_of d)) c.in_ok-rule.ensures.same ∙ ap (entered c.args.stamp c.worker_at-who.result Looked) c.in_ok-reserve.ensures.same in
    let within = rw (← c.self.view_is) at c.requires.place in
    let some = rw (← c.self.view_is) at c.requires.some in
    let below = rw (← c.self.view_is) at c.requires.later in
    let read : desk_of c.reserve.new.self ≡ desk_of c.self.inside.parts.desk = ap (λ (k : DeskView). k.desk) c.in_ok-reserve.ensures.same in
    let whole : state_of (record c.self.inside.parts { desk = c.look.new.self; lanes = c.settle_at.new.lanes }) ≡ with_checked c.args.stamp c.args.place c.worker_at-who.result c.in_ok-rule.rule e = λ i. record e { desk = desk i; lanes = c.in_ok-settle_at.ensures.ok i } in
    let is = checked_host_is e c.args.place c.args.stamp within below some (λ l h. c.worker_at-who.ensures.keeps l h) c.worker_at-who.result c.in_ok-rule.rule
    (λ l h. c.in_ok-rule.ensures.rule l h ∙ ap (λ (d : Desk). lane_rule d l.worker.cert) read) in
    subst (λ (s : HostState). host_of s ≡ step_lane scheme (site_of c.args.self.now) (host_of c.args.self.now) c.args.place (slice_get (host_of c.args.self.now).workers c.args.place)) (sym whole)
    (subst (λ (s : HostState). host_of (with_checked c.args.stamp c.args.place c.worker_at-who.result c.in_ok-rule.rule e) ≡ step_lane scheme (site_of s) (host_of s) c.args.place (slice_get (host_of s).workers c.args.place)) c.self.view_is is)

pub returns-clause-changed : goal.returns-clause-changed
returns-clause-changed g c =
    let e = state_of c.self.inside.parts in
    let desk : kept_of c.look.new.self ≡ entered c.args.stamp c.worker_at-who.result Looked (kept_of c.self.inside.parts.desk) = c.look.ensures.entry ∙ ap (λ (d : DeskState). entered c.args.stamp c.worker_at-who.result Looked (kept_of d)) c.in_ok-rule.ensures.same ∙ ap (entered c.args.stamp c.worker_at-who.result Looked) c.in_ok-reserve.ensures.same in
    let within = rw (← c.self.view_is) at c.requires.place in
    let some = rw (← c.self.view_is) at c.requires.some in
    let below = rw (← c.self.view_is) at c.requires.later in
    let read : desk_of c.reserve.new.self ≡ desk_of c.self.inside.parts.desk = ap (λ (k : DeskView). k.desk) c.in_ok-reserve.ensures.same in
    let whole : state_of (record c.self.inside.parts { desk = c.look.new.self; lanes = c.settle_at.new.lanes }) ≡ with_checked c.args.stamp c.args.place c.worker_at-who.result c.in_ok-rule.rule e = λ i. record e { desk = desk i; lanes = c.in_ok-settle_at.ensures.ok i } in
    λ same. checked_host_moved e c.args.place c.args.stamp within below some (λ l h. c.worker_at-who.ensures.keeps l h) c.worker_at-who.result c.in_ok-rule.rule
    (λ l h. c.in_ok-rule.ensures.rule l h ∙ ap (λ (d : Desk). lane_rule d l.worker.cert) read)
    (ap host_of (sym whole) ∙ (same ∙ ap host_of (sym c.self.view_is)))

pub returns-clause-site : goal.returns-clause-site
returns-clause-site g c =
    let e = state_of c.self.inside.parts in
    let desk : kept_of c.look.new.self ≡ entered c.args.stamp c.worker_at-who.result Looked (kept_of c.self.inside.parts.desk) = c.look.ensures.entry ∙ ap (λ (d : DeskState). entered c.args.stamp c.worker_at-who.result Looked (kept_of d)) c.in_ok-rule.ensures.same ∙ ap (entered c.args.stamp c.worker_at-who.result Looked) c.in_ok-reserve.ensures.same in
    let whole : state_of (record c.self.inside.parts { desk = c.look.new.self; lanes = c.settle_at.new.lanes }) ≡ with_checked c.args.stamp c.args.place c.worker_at-who.result c.in_ok-rule.rule e = λ i. record e { desk = desk i; lanes = c.in_ok-settle_at.ensures.ok i } in
    ap site_of whole ∙ (plan_checked e c.args.stamp c.args.place c.worker_at-who.result c.in_ok-rule.rule ∙ ap site_of c.self.view_is)

pub returns-clause-stamps : goal.returns-clause-stamps
returns-clause-stamps g c =
    let e = state_of c.self.inside.parts in
    let desk : kept_of c.look.new.self ≡ entered c.args.stamp c.worker_at-who.result Looked (kept_of c.self.inside.parts.desk) = c.look.ensures.entry ∙ ap (λ (d : DeskState). entered c.args.stamp c.worker_at-who.result Looked (kept_of d)) c.in_ok-rule.ensures.same ∙ ap (entered c.args.stamp c.worker_at-who.result Looked) c.in_ok-reserve.ensures.same in
    let below = rw (← c.self.view_is) at c.requires.later in
    rw (desk, c.in_ok-settle_at.ensures.ok) (below_with_checked e c.args.stamp c.args.place c.worker_at-who.result c.in_ok-rule.rule below (subst (λ (k : DeskView). last_of_desk k ≤ c.args.stamp) desk c.look.ensures.last))

pub returns-clause-entered : goal.returns-clause-entered
returns-clause-entered g c =
    let e = state_of c.self.inside.parts in
    let desk : kept_of c.look.new.self ≡ entered c.args.stamp c.worker_at-who.result Looked (kept_of c.self.inside.parts.desk) = c.look.ensures.entry ∙ ap (λ (d : DeskState). entered c.args.stamp c.worker_at-who.result Looked (kept_of d)) c.in_ok-rule.ensures.same ∙ ap (entered c.args.stamp c.worker_at-who.result Looked) c.in_ok-reserve.ensures.same in
    let within = rw (← c.self.view_is) at c.requires.place in
    let whole : state_of (record c.self.inside.parts { desk = c.look.new.self; lanes = c.settle_at.new.lanes }) ≡ with_checked c.args.stamp c.args.place c.worker_at-who.result c.in_ok-rule.rule e = λ i. record e { desk = desk i; lanes = c.in_ok-settle_at.ensures.ok i } in
    let who : c.worker_at-who.result ≡ lane_actor e.host c.args.place
    = there_is (c.worker_at-who.result ≡ lane_actor e.host c.args.place) e.lanes c.args.place within (λ l h. c.worker_at-who.ensures.who l h ∙ worker_is e c.args.place c.self.invariant l h) in
    let some = rw (← c.self.view_is) at c.requires.some in
    let below = rw (← c.self.view_is) at c.requires.later in
    let after = with_checked c.args.stamp c.args.place c.worker_at-who.result c.in_ok-rule.rule e in
    subst (λ (s : HostState). Enters c.args.stamp (lane_actor c.args.self.now.host c.args.place) (frame_access c.args.place c.args.self.now) c.args.self.now s) (sym whole)
    (subst (λ (s : HostState). Enters c.args.stamp (lane_actor s.host c.args.place) (frame_access c.args.place s) s after) c.self.view_is
    (enters_by c.args.stamp (lane_actor e.host c.args.place) (frame_access c.args.place e) (InDesk Looked) e after
    (checked_touches e c.args.place c.args.stamp within below some (λ l h. c.worker_at-who.ensures.keeps l h))
    (subst (λ (a : Actor). Enters c.args.stamp a (InDesk Looked) e after) who (enters_checked c.args.stamp c.worker_at-who.result c.args.place c.in_ok-rule.rule e))))
