use Rattle.std.proofs.Common.{◌≡◌, ◌<◌, length, sym, subst}
use Rattle.ds_exporter.specs.HostStates.{HostState}
use Rattle.ds_exporter.specs.PlainHosts.{host_of}
use Rattle.ds_exporter.specs.Asking.{AsksSo, IsSameUnless}
use Rattle.ds_model.specs.Access.{NoAccess}
use Rattle.ds_exporter.specs.Entering.{step_access}
use Rattle.ds_exporter.specs.Stamping.{IsBefore}
use Rattle.ds_exporter.specs.Stepping.{next_host}
use Rattle.ds_exporter.proofs.OneStep.{stepped_from, waits_still}
use Rattle.ds_exporter.proofs.exporter.Exporter.step_outside.Goals as goal

pub returns-in-Waits-clause-ok : goal.returns-in-Waits-clause-ok
returns-in-Waits-clause-ok g c =
    let same = subst (IsSameUnless c.args.index c.args.self.now c.ask.new.self) c.in-Waits.is c.in_ok-ask.ensures.same in
    let asked = subst (AsksSo c.args.index c.ask.new.self) c.in-Waits.is c.in_ok-ask.ensures.asks in
    let within = subst (λ (s : HostState). c.args.index < length s.procs) (sym same) c.requires.there in
    let still = waits_still c.ask.new.self c.args.index within (λ x h. asked x h) in (
      same,
      subst (λ (s : HostState). host_of s ≡ next_host c.args.index s) same still.0,
      subst (λ (s : HostState). step_access c.args.index s ≡ NoAccess) same still.1,
    )

pub returns-in-Internal-clause-ok : goal.returns-in-Internal-clause-ok
returns-in-Internal-clause-ok g c =
    let stepped = subst (IsSameUnless c.args.index c.args.self.now c.ask.new.self) c.in-Internal.is c.in_ok-ask.ensures.same in
    stepped c.args.stamp c.requires.later

pub returns-in_ok-refuse_operation-in-Refused-clause-ok : goal.returns-in_ok-refuse_operation-in-Refused-clause-ok
returns-in_ok-refuse_operation-in-Refused-clause-ok g c =
    let same = subst (IsSameUnless c.args.index c.args.self.now c.ask.new.self) c.in-Refused.is c.in_ok-ask.ensures.same in
    let below = subst (IsBefore c.args.stamp) (sym same) c.requires.later in
    stepped_from c.args.stamp c.args.index c.args.self.now c.ask.new.self c.refuse_operation.new.self same (c.in_ok-refuse_operation-in-Refused.ensures.ok c.args.stamp below)
