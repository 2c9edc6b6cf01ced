use Rattle.std.proofs.Common.{List, map, subst}
use Rattle.ds_plan.specs.declared.event.Event.{Event}
use Rattle.ds_setup.specs.Plans.{plan_of}
use Rattle.ds_setup.specs.Events.{meant}
use Rattle.ds_exporter.proofs.IfDone.{on_err}
use Rattle.ds_world.specs.Afters.{IsStoppedIn}
use Rattle.ds_world.specs.Hands.{AreSpelledAfter}
use Rattle.ds_world.specs.Worlds.{world_of}
use Rattle.ds_world.proofs.Hands.{is_lawful}
use Rattle.ds_world.proofs.world.World.run.Goals as goal

pub returns-clause-lawful : goal.returns-clause-lawful
returns-clause-lawful c =
    is_lawful c.args.self.now (map meant c.args.events.now)
    (subst (λ (es : List Event). AreSpelledAfter (plan_of c.args.self.now.doc) (world_of c.args.self.now) (map meant es)) c.as_slice.ensures c.in_ok-run_each.ensures.spelled)

pub returns-in_err-run_each-clause-err : goal.returns-in_err-run_each-clause-err
returns-in_err-run_each-clause-err c =
    on_err (IsStoppedIn (plan_of c.args.self.now.doc) (map meant c.args.events.now) (world_of c.args.self.now) (world_of c.run_each.new.self)) c.from_residual.result
    (subst (λ (es : List Event). IsStoppedIn (plan_of c.args.self.now.doc) (map meant es) (world_of c.args.self.now) (world_of c.run_each.new.self)) c.as_slice.ensures c.in_err-run_each.ensures.err)
