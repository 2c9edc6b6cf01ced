use Rattle.std.proofs.Common.{◌≡◌, ◌++◌, take, flat_map, map}
use Rattle.ds_exporter.specs.HostStates.{lane_of}
use Rattle.ds_summary.specs.Parts.{lane_part}
use Rattle.ds_summary.proofs.parts.push_lanes.Given as goal

abbrev pub invariant-loop-lane : goal.invariant-loop-lane
invariant-loop-lane l = l.out.items ≡ l.initial.out.items ++ flat_map lane_part (map lane_of (take l.lane-index l.lanes))
