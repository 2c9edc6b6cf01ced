use Rattle.std.proofs.Common.{◌≡◌, ◌++◌, drop, map}
use Rattle.std.specs.Prelude.{All}
use Rattle.ds_crew.specs.Histories.{IsHistory, names_of_lanes, object_in}
use Rattle.ds_crew.proofs.object_histories.add_lanes.Given as goal

abbrev pub invariant-loop-lane : goal.invariant-loop-lane
invariant-loop-lane g l = record {
  objects : map object_in l.out.items ++ names_of_lanes l.host l.number (drop l.lane-index l.lanes) ≡ map object_in l.initial.out.items ++ names_of_lanes l.host 1 l.lanes;
  each : All IsHistory l.initial.out.items → All IsHistory l.out.items;
}
