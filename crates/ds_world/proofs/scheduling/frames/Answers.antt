use Rattle.std.proofs.Common.{◌≡◌, ◌∙◌, ◌+◌, ◌-◌, arith, refl}
use Rattle.ds_model.specs.Schedule.{Schedule}
use Rattle.ds_plan.specs.declared.doc.Doc.{Doc}
use Rattle.ds_world.specs.Makings.{schedule_of, tries_all}
use Rattle.ds_world.proofs.Tried.{frames_of, more_tried}
use Rattle.ds_world.proofs.Hands.{goes_more, goes_self}
use Rattle.ds_world.proofs.scheduling.frames.Goals as goal

pub loop-place-preserved : goal.loop-place-preserved
loop-place-preserved c =
    let d : Doc = c.args.world.now.doc in
    let start : Schedule = schedule_of c.args.world.now c.args.making.now in
    let sch : Schedule = schedule_of c.loop-place.world c.loop-place.making in
    let next : Schedule = schedule_of c.two_frames.new.world c.two_frames.new.making in
    record {
      made =
          let e : c.loop-place.place + 1 - 1 ≡ c.loop-place.place = omega arith in
          more_tried d (frames_of c.args.host) c.loop-place.place start sch next c.loop-place.invariant.made (c.in_ok-two_frames.ensures.made ∙ (λ i. tries_all (c.loop-place.invariant.doc i) (frames_of c.args.host (e i)) sch));
      room = c.in_ok-two_frames.ensures.room;
      goes = goes_more c.args.world.now c.loop-place.world c.two_frames.new.world c.args.making.now c.loop-place.making c.two_frames.new.making c.loop-place.invariant.doc c.loop-place.invariant.goes c.in_ok-two_frames.ensures.goes;
      doc = c.two_frames.ensures.doc ∙ c.loop-place.invariant.doc;
    }

pub loop-place-init : goal.loop-place-init
loop-place-init c = record {
  made = refl;
  room = c.requires.room;
  goes = goes_self c.args.world.now c.args.world.now c.args.making.now c.args.making.now refl refl refl;
  doc = refl;
}
