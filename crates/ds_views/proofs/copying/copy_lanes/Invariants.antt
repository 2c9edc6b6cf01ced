use Rattle.std.proofs.Common.{◌≡◌, ◌++◌, drop}
use Rattle.ds_views.proofs.copying.copy_lanes.Given as goal

abbrev pub invariant-loop-lane : goal.invariant-loop-lane
invariant-loop-lane l = l.copies ++ drop l.lane-index l.lanes ≡ l.lanes
