use Rattle.std.proofs.Common.{◌≡◌, ◌≤◌, map, ap, subst, ◌∙◌, refl}
use Rattle.ds_script.specs.declared.actor.Actor.{Actor}
use Rattle.ds_model.specs.Lists.{at}
use Rattle.ds_model.specs.Desk.{Looked}
use Rattle.ds_desk.specs.declared.state.DeskState.{DeskState}
use Rattle.ds_desk.specs.Desks.{DeskView, IsReplay, entered, kept_of}
use Rattle.ds_exporter.specs.HostStates.{process_of, state_of}
use Rattle.ds_exporter.specs.Sending.{IsSendVerdict, judged_proc}
use Rattle.ds_exporter.specs.Stamping.{last_of_desk}
use Rattle.ds_exporter.specs.Stepping.{proc_actor}
use Rattle.ds_exporter.proofs.SendSteps.{fits_judged, stepped_judged}
use Rattle.ds_exporter.proofs.exporter.Exporter.judge_sent.Goals as goal

pub invariant_of-self-2 : goal.invariant_of-self-2
invariant_of-self-2 c =
    let e = state_of c.self.inside.parts in
    let within = rw (← c.self.view_is) at c.requires.there in
    let free = rw (← c.self.view_is) at c.requires.free in
    let who : Actor = proc_actor c.self.inside.parts.host c.args.index in
    let desk : kept_of c.look.new.self ≡ entered c.args.stamp who Looked e.desk = c.look.ensures.entry ∙ ap (λ (d : DeskState). entered c.args.stamp who Looked (kept_of d)) c.in_ok-verdict.ensures.same ∙ ap (entered c.args.stamp who Looked) c.in_ok-reserve.ensures.same in
    let says : IsSendVerdict e.desk e.lanes c.args.message c.in_ok-verdict.verdict = subst (λ (k : DeskView). IsSendVerdict k e.lanes c.args.message c.in_ok-verdict.verdict) c.in_ok-reserve.ensures.same c.in_ok-verdict.ensures.verdict in
    let procs : map process_of c.judged_at.new.procs.items ≡ at c.args.index (judged_proc c.args.message c.in_ok-verdict.verdict) e.procs
    = c.judged_at.ensures ∙ ap (at c.args.index (judged_proc c.args.message c.in_ok-verdict.verdict)) c.in_ok-reserve_proc.ensures.same in
    rw (desk, procs) (fits_judged e c.args.index c.args.stamp who c.args.message c.in_ok-verdict.verdict says c.requires.short within (λ x h. free x h) c.self.invariant (subst IsReplay desk c.look.ensures.kept))

pub returns-clause-ok : goal.returns-clause-ok
returns-clause-ok c =
    let e = state_of c.self.inside.parts in
    let within = rw (← c.self.view_is) at c.requires.there in
    let free = rw (← c.self.view_is) at c.requires.free in
    let asks = rw (← c.self.view_is) at c.requires.asks in
    let below = rw (← c.self.view_is) at c.requires.later in
    let who : Actor = proc_actor c.self.inside.parts.host c.args.index in
    let desk : kept_of c.look.new.self ≡ entered c.args.stamp who Looked e.desk = c.look.ensures.entry ∙ ap (λ (d : DeskState). entered c.args.stamp who Looked (kept_of d)) c.in_ok-verdict.ensures.same ∙ ap (entered c.args.stamp who Looked) c.in_ok-reserve.ensures.same in
    let says : IsSendVerdict e.desk e.lanes c.args.message c.in_ok-verdict.verdict = subst (λ (k : DeskView). IsSendVerdict k e.lanes c.args.message c.in_ok-verdict.verdict) c.in_ok-reserve.ensures.same c.in_ok-verdict.ensures.verdict in
    let procs : map process_of c.judged_at.new.procs.items ≡ at c.args.index (judged_proc c.args.message c.in_ok-verdict.verdict) e.procs
    = c.judged_at.ensures ∙ ap (at c.args.index (judged_proc c.args.message c.in_ok-verdict.verdict)) c.in_ok-reserve_proc.ensures.same in
    rw (desk, procs, ← c.self.view_is) (stepped_judged e c.args.index c.args.stamp who c.args.message c.in_ok-verdict.verdict says c.requires.short within (λ x h. free x h)
    refl (λ x h. asks x h) below (subst (λ (k : DeskView). last_of_desk k ≤ c.args.stamp) desk c.look.ensures.last))
