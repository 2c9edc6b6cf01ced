use Rattle.std.proofs.Common.{Some, None, sym, ap, subst, ◌∙◌}
use Rattle.std.specs.Prelude.{IsTrue, Err}
use Rattle.ds_script.specs.declared.note.Note.TheVariants as notes
use Rattle.ds_script.specs.Process.{Process as Numbered, finished_process}
use Rattle.ds_model.specs.ExporterRules.{known_rule}
use Rattle.ds_model.specs.ProcessStep.{Internal}
use Rattle.ds_label.specs.Numbers.{by_number}
use Rattle.ds_model.specs.ProcessRules.{may_relabel}
use Rattle.ds_monitor.specs.declared.fault.ProcFault.{ProcFault}
use Rattle.ds_monitor.specs.Judgements.{Answers}
use Rattle.ds_map.specs.Labels.{have_names}
use Rattle.ds_actor.specs.Usable.{categories, numbers_by}
use Rattle.ds_actor.specs.Seen.{process_of, proc_labels}
use Rattle.ds_actor.proofs.Changes.{label_refused, label_set, labels_named}
use Rattle.ds_actor.proofs.labels.set_label.Goals as goal

pub returns-in-Ok-clause-labels : goal.returns-in-Ok-clause-labels
returns-in-Ok-clause-labels c = λ rows table agreed named.
    let p = c.args.process.now.process in
    subst (λ (z : Numbered). IsTrue (have_names c.args.here.now rows (proc_labels z)))
    (sym (c.finish.ensures.process ∙ ap (finished_process (Some (notes.SetLabel c.args.label)) None) c.in-Ok.ensures.ok))
    (labels_named c.args.here.now rows table None p agreed named c.args.label c.as_slice-label.ensures.rising c.in_ok-numbers.numbers
    (c.in_ok-numbers.ensures ∙ (λ i. numbers_by c.args.here.now (c.names.ensures.names i) (c.as_slice.ensures.members i)))
    (ap (λ z. known_rule c.args.here.now (categories p.names) c.args.label z z) (sym c.new-none.ensures) ∙ (sym c.unknown_rule.ensures ∙ c.in_default.is)))

pub returns-in-Ok-clause-asked : goal.returns-in-Ok-clause-asked
returns-in-Ok-clause-asked c = λ rows table agreed named hand.
    let p = c.args.process.now.process in
    label_set c.args.here.now rows table hand p agreed named c.args.label c.as_slice-label.ensures.rising c.in_ok-numbers.numbers
    (c.in_ok-numbers.ensures ∙ (λ i. numbers_by c.args.here.now (c.names.ensures.names i) (c.as_slice.ensures.members i)))
    (ap (λ z. known_rule c.args.here.now (categories p.names) c.args.label z z) (sym c.new-none.ensures) ∙ (sym c.unknown_rule.ensures ∙ c.in_default.is))
    c.in-Ok.ensures.rule
    ∙ ap (λ (z : Numbered). Internal (process_of c.args.here.now rows hand z)) (sym (c.finish.ensures.process ∙ ap (finished_process (Some (notes.SetLabel c.args.label)) None) c.in-Ok.ensures.ok))

pub returns-in-Err-Refused-clause-asked : goal.returns-in-Err-Refused-clause-asked
returns-in-Err-Refused-clause-asked c = λ rows table agreed named hand.
    let p = c.args.process.now.process in
    label_refused c.args.here.now rows table hand p agreed named c.args.label c.as_slice-label.ensures.rising c.in_ok-numbers.numbers
    (c.in_ok-numbers.ensures ∙ (λ i. numbers_by c.args.here.now (c.names.ensures.names i) (c.as_slice.ensures.members i)))
    (ap (λ z. known_rule c.args.here.now (categories p.names) c.args.label z z) (sym c.new-none.ensures) ∙ (sym c.unknown_rule.ensures ∙ c.in_default.is))
    c.in-Err-Refused.rule (subst (λ (e : ProcFault). Answers {A = Unit {0}} (may_relabel by_number p.label p.own p.clear c.in_ok-numbers.numbers) (Err e)) c.in-Err-Refused.field-0-is c.in-Err-Refused.ensures.rule)
