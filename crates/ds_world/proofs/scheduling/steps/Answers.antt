use Rattle.std.proofs.Common.{◌∙◌, ap, refl}
use Rattle.ds_model.specs.Step.{Step}
use Rattle.ds_model.specs.Schedule.{Schedule}
use Rattle.ds_plan.specs.declared.doc.Doc.{Doc}
use Rattle.ds_world.specs.Makings.{schedule_of, tries}
use Rattle.ds_world.proofs.Tried.{more_tried, steps_of}
use Rattle.ds_world.proofs.Hands.{goes_more, goes_self}
use Rattle.ds_world.proofs.scheduling.steps.Goals as goal

pub loop-index-preserved : goal.loop-index-preserved
loop-index-preserved c =
    let d : Doc = c.args.world.now.doc in
    let start : Schedule = schedule_of c.args.world.now c.args.making.now in
    let sch : Schedule = schedule_of c.loop-index.world c.loop-index.making in
    let next : Schedule = schedule_of c.attempt.new.world c.attempt.new.making in
    record {
      made = more_tried d (steps_of c.args.host) c.loop-index.index start sch next c.loop-index.invariant.made (c.in_ok-attempt.ensures.made ∙ ap (λ (x : Doc). tries x (Step c.args.host c.loop-index.index) sch) c.loop-index.invariant.doc);
      room = c.in_ok-attempt.ensures.room;
      goes = goes_more c.args.world.now c.loop-index.world c.attempt.new.world c.args.making.now c.loop-index.making c.attempt.new.making c.loop-index.invariant.doc c.loop-index.invariant.goes c.in_ok-attempt.ensures.goes;
      doc = c.attempt.ensures.doc ∙ c.loop-index.invariant.doc;
    }

pub loop-index-init : goal.loop-index-init
loop-index-init c = record {
  made = refl;
  room = c.requires.room;
  goes = goes_self c.args.world.now c.args.world.now c.args.making.now c.args.making.now refl refl refl;
  doc = refl;
}
