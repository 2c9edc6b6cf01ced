use Rattle.std.proofs.Common.{sym, ap, ◌∙◌}
use Rattle.ds_model.specs.Desk.{Mapping}
use Rattle.ds_model.specs.ProcessStep.{publish}
use Rattle.ds_actor.specs.Seen.{process_of}
use Rattle.ds_actor.proofs.publishing.ask_map.Goals as goal

pub returns-in-Some-clause-asked : goal.returns-in-Some-clause-asked
returns-in-Some-clause-asked c = λ here rows table agreed named hand y.
    ap (publish (process_of here rows hand c.args.process.now.process) (Mapping c.args.category.now) 0 0) (sym (c.publish_refusal.ensures here rows table agreed named hand) ∙ c.in-Some.is)

pub returns-clause-asked : goal.returns-clause-asked
returns-clause-asked c = λ here rows table agreed named hand y.
    ap (publish (process_of here rows hand c.args.process.now.process) (Mapping c.args.category.now) 0 0) (sym (c.publish_refusal.ensures here rows table agreed named hand) ∙ c.in_default.is)
