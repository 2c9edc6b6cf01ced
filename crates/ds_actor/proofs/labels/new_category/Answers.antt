use Rattle.std.proofs.Common.{◌&&◌, [], true, Some, None, sym, ap, subst, ◌∙◌, arith}
use Rattle.std.specs.Prelude.{IsTrue}
use Rattle.ds_label.specs.declared.category.Category.{Category}
use Rattle.ds_script.specs.declared.note.Note.TheVariants as notes
use Rattle.ds_script.specs.Process.{Process as Numbered, finished_process, made_process}
use Rattle.ds_model.specs.Mapping.{home_number, next_category}
use Rattle.ds_model.specs.ProcessRules.{may_make}
use Rattle.ds_model.specs.ProcessStep.{Internal}
use Rattle.ds_label.specs.Flow.{IsRising}
use Rattle.ds_label.specs.Names.{by_name}
use Rattle.ds_label.specs.Numbers.{by_number}
use Rattle.ds_map.specs.Labels.{have_names, named as by_names}
use Rattle.ds_actor.specs.Usable.{IsAgreed}
use Rattle.ds_actor.specs.Seen.{process_of, proc_labels}
use Rattle.ds_actor.proofs.Sites.{first_named, second_named, third_named}
use Rattle.ds_actor.proofs.Changes.{own_named, made_agreed, made}
use Rattle.ds_actor.proofs.Numbered.{new_home}
use Rattle.ds_actor.proofs.labels.new_category.Goals as goal

pub new_category-requires-clause-new : goal.new_category-requires-clause-new
new_category-requires-clause-new c =
    new_home c.args.here.now c.args.process.now.process.names c.args.index c.args.process.now.process.made c.args.kind c.requires.index (omega (arith, c.made-made.ensures)) c.requires.agreed

pub returns-in-Ok-clause-names : goal.returns-in-Ok-clause-names
returns-in-Ok-clause-names c = λ rows table agreed named.
    let p = c.args.process.now.process in
    subst (λ (z : Numbered). IsAgreed c.args.here.now rows z.names)
    (sym (c.finish.ensures.process ∙ (ap (finished_process (Some (notes.NewCat c.in-Ok.category)) None) c.in-Ok.ensures.ok
    ∙ ap (λ (d : Category). finished_process (Some (notes.NewCat d)) None (made_process d (home_number d) p)) c.in-Ok.ensures.category)))
    (made_agreed c.args.here.now rows table None p c.args.index c.args.kind c.requires.index (omega (arith, c.made-made.ensures)) agreed)

pub returns-in-Ok-clause-labels : goal.returns-in-Ok-clause-labels
returns-in-Ok-clause-labels c = λ rows table agreed named.
    let p = c.args.process.now.process in
    subst (λ (z : Numbered). IsTrue (have_names c.args.here.now rows (proc_labels z)))
    (sym (c.finish.ensures.process ∙ (ap (finished_process (Some (notes.NewCat c.in-Ok.category)) None) c.in-Ok.ensures.ok
    ∙ ap (λ (d : Category). finished_process (Some (notes.NewCat d)) None (made_process d (home_number d) p)) c.in-Ok.ensures.category)))
    (λ i. first_named c.args.here.now rows p.label p.own p.clear [] named i
    && (own_named c.args.here.now rows table None p c.args.index c.args.kind c.requires.index (omega (arith, c.made-made.ensures)) (second_named c.args.here.now rows p.label p.own p.clear [] named) i
    && (third_named c.args.here.now rows p.label p.own p.clear [] named i && true)))

pub returns-in-Ok-clause-asked : goal.returns-in-Ok-clause-asked
returns-in-Ok-clause-asked c = λ rows table agreed named hand.
    let p = c.args.process.now.process in
    made c.args.here.now rows table hand p c.args.index c.args.kind c.requires.index (omega (arith, c.made-made.ensures))
    (may_make by_name (by_names c.args.here.now rows p.own) p.made (next_category c.args.here.now c.args.index p.made c.args.kind))
    (c.in-Ok.ensures.names rows table (λ i. second_named c.args.here.now rows p.label p.own p.clear [] named i && true) (subst (IsRising by_number) c.own.ensures c.as_slice-own.ensures.rising))
    ∙ ap (λ (z : Numbered). Internal (process_of c.args.here.now rows hand z))
    (sym (c.finish.ensures.process ∙ (ap (finished_process (Some (notes.NewCat c.in-Ok.category)) None) c.in-Ok.ensures.ok
    ∙ ap (λ (d : Category). finished_process (Some (notes.NewCat d)) None (made_process d (home_number d) p)) c.in-Ok.ensures.category)))
