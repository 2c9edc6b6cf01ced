use Rattle.std.proofs.Common.{sym, ap, ◌∙◌}
use Rattle.ds_model.specs.Desk.{Delegating}
use Rattle.ds_model.specs.ProcessStep.{publish}
use Rattle.ds_actor.specs.Seen.{process_of}
use Rattle.ds_actor.proofs.publishing.ask_delegate.Goals as goal

pub returns-in-Some-clause-asked : goal.returns-in-Some-clause-asked
returns-in-Some-clause-asked c = λ rows table agreed named hand y.
    ap (publish (process_of c.args.here.now rows hand c.args.process.now.process) (Delegating c.args.category.now c.args.to.now c.args.from c.args.until) c.args.reg c.args.host)
    (sym (c.delegate_refusal.ensures rows table agreed named hand) ∙ c.in-Some.is)

pub returns-clause-asked : goal.returns-clause-asked
returns-clause-asked c = λ rows table agreed named hand y.
    ap (publish (process_of c.args.here.now rows hand c.args.process.now.process) (Delegating c.args.category.now c.args.to.now c.args.from c.args.until) c.args.reg c.args.host)
    (sym (c.delegate_refusal.ensures rows table agreed named hand) ∙ c.in_default.is)
