use Rattle.std.proofs.Common.{sym, ◌∙◌}
use Rattle.ds_cert.specs.declared.cert.Cert.TheVariants as certs
use Rattle.ds_model.specs.Desk.{Imported}
use Rattle.ds_desk.specs.Desks.{kept_of}
use Rattle.ds_desk.proofs.Grows.{grown, both_hold}
use Rattle.ds_desk.proofs.state.DeskState.take_delegation.Goals as goal

pub returns-clause-kept : goal.returns-clause-kept
returns-clause-kept c =
    rw (c.enter.ensures.items, c.keep_delegation.ensures, c.in_ok-copy.ensures, c.reserve-2.ensures.same, c.reserve.ensures.same)
    (grown (kept_of c.args.self.now) c.args.stamp c.args.who (Imported (certs.Delegation c.args.new)) c.requires.kept c.requires.later
    (λ s plan. both_hold _ _ _ _ (sym c.delegation_rule.ensures ∙ c.in_default.is)))
