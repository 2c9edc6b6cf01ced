use Rattle.std.proofs.Common.{Some, sym, ap, subst, ◌∙◌}
use Rattle.std.specs.Prelude.{IsTrue}
use Rattle.ds_script.specs.declared.note.Note.TheVariants as notes
use Rattle.ds_script.specs.Process.{Process as Numbered, finished_process}
use Rattle.ds_label.specs.Flow.{IsRising}
use Rattle.ds_label.specs.Numbers.{by_number}
use Rattle.ds_map.specs.Labels.{have_names}
use Rattle.ds_actor.specs.Seen.{process_of, proc_labels}
use Rattle.ds_actor.proofs.Replies.{granted_named, taken_by}
use Rattle.ds_actor.proofs.replying.took.Goals as goal

pub returns-clause-labels : goal.returns-clause-labels
returns-clause-labels c = λ here rows proc_named mail_named.
    subst (λ (z : Numbered). IsTrue (have_names here rows (proc_labels z)))
    (sym (c.finish.ensures.process
    ∙ ap (finished_process (Some (notes.Took c.args.slot c.len-size.result c.grant-granted.result)) (Some (c.args.reg, c.args.message.payload))) c.grant-granted.ensures.process))
    (granted_named here rows c.args.process.now.process c.args.message proc_named mail_named)

pub returns-clause-becomes : goal.returns-clause-becomes
returns-clause-becomes c = λ here rows table proc_named mail_named hand.
    ap (process_of here rows hand) (c.finish.ensures.process
    ∙ (λ i. finished_process (Some (notes.Took c.args.slot (c.len-size.ensures i) (c.grant-granted.ensures.fits i))) (Some (c.args.reg, c.args.message.payload)) (c.grant-granted.ensures.process i)))
    ∙ taken_by here rows c.args.process.now.process c.args.message proc_named mail_named table hand
    (subst (IsRising by_number) c.own.ensures c.as_slice-own.ensures.rising) (subst (IsRising by_number) c.clear.ensures c.as_slice-clear.ensures.rising) c.args.reg c.args.slot
