use Rattle.std.proofs.Common.{◌≡◌, take}
use Rattle.ds_setup.specs.Lists.{each}
use Rattle.ds_boot.specs.AllKeys.{lane_tree}
use Rattle.ds_boot.proofs.trees.trees_of_lanes.Given as goal

abbrev pub invariant-loop-place : goal.invariant-loop-place
invariant-loop-place l = l.trees.items ≡ each (lane_tree l.host) (take l.place l.lanes)
