use Rattle.std.proofs.Common.{sym, ap, ◌∙◌}
use Rattle.ds_script.specs.Inner.{register}
use Rattle.ds_model.specs.Desk.{Importing}
use Rattle.ds_model.specs.ProcessStep.{PublicAct, publish}
use Rattle.ds_actor.specs.Seen.{process_of}
use Rattle.ds_actor.proofs.publishing.ask_import.Goals as goal

pub returns-in-Some-clause-asked : goal.returns-in-Some-clause-asked
returns-in-Some-clause-asked c = λ here rows table agreed named hand y.
    ap (publish (process_of here rows hand c.args.process.now.process) (Importing (register c.args.reg c.args.process.now.process.course)) 0 0) (sym (c.publish_refusal.ensures here rows table agreed named hand) ∙ c.in-Some.is)

pub returns-clause-asked : goal.returns-clause-asked
returns-clause-asked c = λ here rows table agreed named hand y.
    ap (publish (process_of here rows hand c.args.process.now.process) (Importing (register c.args.reg c.args.process.now.process.course)) 0 0) (sym (c.publish_refusal.ensures here rows table agreed named hand) ∙ c.in_default.is)
    ∙ ap (λ b. PublicAct (Importing b) 0 0) (sym c.register.ensures.bytes ∙ sym c.in_ok-copy.ensures)
