use Rattle.std.proofs.Common.{◌≡◌, ◌++◌, map}
use Rattle.std.specs.Prelude.{All}
use Rattle.ds_crew.specs.ActorEvents.{IsRising, of_lane, of_record}
use Rattle.ds_crew.proofs.actor_records.add_lanes.Given as goal

abbrev pub invariant-loop-lane : goal.invariant-loop-lane
invariant-loop-lane l = record {
  records : map of_record l.out.items ++ map of_lane l.lane-iterator.rest.items ≡ map of_record l.initial.out.items ++ map of_lane l.fn.lanes.items;
  rising : All IsRising l.initial.out.items → All IsRising l.out.items;
}
