use Rattle.std.proofs.Common.{◌≡◌, ◌∙◌, ◌+◌, ℕ, List, map, refl, sym, ap, subst, arith}
use Rattle.std.proofs.lemmas.List.{take_all}
use Rattle.ds_model.specs.Plan.{Plan}
use Rattle.ds_model.specs.World.{World}
use Rattle.ds_model.specs.Step.{run, step}
use Rattle.ds_plan.specs.declared.doc.Doc.{Doc}
use Rattle.ds_plan.specs.declared.event.Event.{Event}
use Rattle.ds_setup.specs.Plans.{plan_of}
use Rattle.ds_setup.specs.Events.{meant}
use Rattle.ds_scheme.specs.TheScheme.{scheme}
use Rattle.ds_exporter.proofs.IfDone.{on_err}
use Rattle.ds_world.specs.Afters.{IsStoppedIn}
use Rattle.ds_world.specs.Hands.{AreSpelledAfter}
use Rattle.ds_world.specs.Worlds.{world_of}
use Rattle.ds_world.proofs.Hands.{ran_next, spelled_next, stopped}
use Rattle.ds_world.proofs.world.World.run_each.Goals as goal

pub loop-event-init : goal.loop-event-init
loop-event-init c = record { ran = refl; spelled = c.hands.ensures; doc = refl; count = omega arith }

pub loop-event-preserved : goal.loop-event-preserved
loop-event-preserved c =
    let plan : Plan = plan_of c.args.self.now.doc in
    let w : World = world_of c.args.self.now in
    let v : World = world_of c.loop-event.self in
    let steps : world_of c.apply.new.self ≡ step scheme plan v (meant c.event-item.result)
    = c.in_ok-apply.ensures.ok.0 ∙ ap (λ (d : Doc). step scheme (plan_of d) v (meant c.event-item.result)) c.loop-event.invariant.doc in
    record {
      ran = ran_next plan w v (world_of c.apply.new.self) c.args.events.now c.loop-event.event-index c.event-item.result c.loop-event-test.true (sym c.event-item.is) c.loop-event.invariant.ran steps;
      spelled = spelled_next plan w v (world_of c.apply.new.self) c.args.events.now c.loop-event.event-index c.event-item.result c.loop-event-test.true (sym c.event-item.is) c.loop-event.invariant.ran steps
          c.loop-event.invariant.spelled c.hands-in-loop-event.ensures;
      doc = c.apply.ensures.doc ∙ c.loop-event.invariant.doc;
      count = omega (arith, c.in_ok-apply.ensures.count, c.loop-event.invariant.count);
    }

pub returns-in_err-apply-clause-err : goal.returns-in_err-apply-clause-err
returns-in_err-apply-clause-err c =
    let plan : Plan = plan_of c.args.self.now.doc in
    on_err (IsStoppedIn plan (map meant c.args.events.now) (world_of c.args.self.now) (world_of c.apply.new.self)) c.from_residual.result
    (stopped plan (world_of c.args.self.now) (world_of c.apply.new.self) c.args.events.now c.loop-event.event-index (ap world_of c.in_err-apply.ensures.err ∙ c.loop-event.invariant.ran))

pub returns-clause-ok : goal.returns-clause-ok
returns-clause-ok c =
    c.loop-event.invariant.ran ∙ ap (λ (es : List Event). run scheme (plan_of c.args.self.now.doc) (world_of c.args.self.now) (map meant es)) (take_all c.loop-event.event-index c.args.events.now c.loop-event-test.false)

pub returns-clause-spelled : goal.returns-clause-spelled
returns-clause-spelled c =
    subst (λ (es : List Event). AreSpelledAfter (plan_of c.args.self.now.doc) (world_of c.args.self.now) (map meant es)) (take_all c.loop-event.event-index c.args.events.now c.loop-event-test.false) c.loop-event.invariant.spelled
