use Rattle.std.proofs.Common.{sym, ap, subst, ◌∙◌}
use Rattle.ds_script.specs.Process.{Process as Numbered}
use Rattle.ds_actor.specs.Usable.{IsAgreed}
use Rattle.ds_actor.specs.Seen.{process_of}
use Rattle.ds_actor.proofs.Changes.{agreed_with}
use Rattle.ds_actor.proofs.Numbered.{new_number}
use Rattle.ds_actor.proofs.Replies.{mapped_by}
use Rattle.ds_actor.proofs.replying.mapped.Goals as goal

pub finish-requires-clause-joins : goal.finish-requires-clause-joins
finish-requires-clause-joins c = new_number c.args.category c.args.number c.args.process.now.process.names c.requires.joins

pub returns-clause-names : goal.returns-clause-names
returns-clause-names c = λ here rows agreed is.
    subst (λ (z : Numbered). IsAgreed here rows z.names) (sym c.finish.ensures.process)
    (agreed_with here rows c.args.category c.args.number c.args.process.now.process.names agreed is)

pub returns-clause-becomes : goal.returns-clause-becomes
returns-clause-becomes c = λ here rows hand reg host.
    ap (process_of here rows hand) c.finish.ensures.process ∙ mapped_by here rows hand c.args.process.now.process reg host c.args.category c.args.number
