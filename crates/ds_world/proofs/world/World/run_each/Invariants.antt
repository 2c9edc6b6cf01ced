use Rattle.std.proofs.Common.{◌≡◌, ◌+◌, take, map}
use Rattle.ds_model.specs.Step.{run}
use Rattle.ds_setup.specs.Plans.{plan_of}
use Rattle.ds_setup.specs.Events.{meant}
use Rattle.ds_scheme.specs.TheScheme.{scheme}
use Rattle.ds_world.specs.Hands.{AreSpelledAfter}
use Rattle.ds_world.specs.Worlds.{world_of}
use Rattle.ds_world.proofs.world.World.run_each.Given as goal

abbrev pub invariant-loop-event : goal.invariant-loop-event
invariant-loop-event l = record {
  ran : world_of l.self ≡ run scheme (plan_of l.initial.self.doc) (world_of l.initial.self) (map meant (take l.event-index l.events));
  spelled : AreSpelledAfter (plan_of l.initial.self.doc) (world_of l.initial.self) (map meant (take l.event-index l.events));
  doc : l.self.doc ≡ l.initial.self.doc;
  count : l.self.count ≡ l.initial.self.count + l.event-index;
}
