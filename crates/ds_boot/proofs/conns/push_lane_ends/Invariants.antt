use Rattle.std.proofs.Common.{◌≡◌, ◌++◌, take, map}
use Rattle.ds_boot.specs.Parts.{lane_to}
use Rattle.ds_boot.proofs.conns.push_lane_ends.Given as goal

abbrev pub invariant-loop-lane : goal.invariant-loop-lane
invariant-loop-lane l =
    l.ends.items ≡ l.initial.ends.items ++ map lane_to (take l.lane-index l.host.lanes)
