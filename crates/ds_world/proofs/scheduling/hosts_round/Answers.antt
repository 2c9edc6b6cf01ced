use Rattle.std.proofs.Common.{◌∙◌, ap, refl}
use Rattle.ds_model.specs.Schedule.{Schedule, host_events}
use Rattle.ds_plan.specs.declared.doc.Doc.{Doc}
use Rattle.ds_setup.specs.Plans.{plan_of}
use Rattle.ds_world.specs.Makings.{schedule_of, tries_all}
use Rattle.ds_world.proofs.Tried.{more_tried}
use Rattle.ds_world.proofs.Hands.{goes_more, goes_self}
use Rattle.ds_world.proofs.scheduling.hosts_round.Goals as goal

pub loop-host-preserved : goal.loop-host-preserved
loop-host-preserved c =
    let d : Doc = c.args.world.now.doc in
    let start : Schedule = schedule_of c.args.world.now c.args.making.now in
    let sch : Schedule = schedule_of c.loop-host.world c.loop-host.making in
    let next : Schedule = schedule_of c.host_round.new.world c.host_round.new.making in
    record {
      made = more_tried d (host_events (plan_of d)) c.loop-host.host start sch next c.loop-host.invariant.made (c.in_ok-host_round.ensures.made ∙ ap (λ (x : Doc). tries_all x (host_events (plan_of x) c.loop-host.host) sch) c.loop-host.invariant.doc);
      room = c.in_ok-host_round.ensures.room;
      goes = goes_more c.args.world.now c.loop-host.world c.host_round.new.world c.args.making.now c.loop-host.making c.host_round.new.making c.loop-host.invariant.doc c.loop-host.invariant.goes c.in_ok-host_round.ensures.goes;
      doc = c.host_round.ensures.doc ∙ c.loop-host.invariant.doc;
    }

pub loop-host-init : goal.loop-host-init
loop-host-init c = record {
  made = refl;
  room = c.requires.room;
  goes = goes_self c.args.world.now c.args.world.now c.args.making.now c.args.making.now refl refl refl;
  doc = refl;
}
