use Rattle.std.proofs.Common.{◌≡◌, length, All, map, take}
use Rattle.ds_lane.specs.Workers.{spelled}
use Rattle.ds_lane.proofs.Sizes.{IsSmall}
use Rattle.ds_lane.proofs.framing.bodies_of.Given as goal

abbrev pub invariant-loop-waiting : goal.invariant-loop-waiting
invariant-loop-waiting l =
    record {
      bodies : l.bodies ≡ map spelled (take l.waiting-index l.hand);
      count : length l.bodies ≡ l.waiting-index;
      small : All IsSmall l.bodies;
    }
