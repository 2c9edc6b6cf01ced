use Rattle.std.proofs.Common.{◌≡◌, ◌++◌, drop, map}
use Rattle.ds_boot.specs.AllKeys.{lane_trees, trees_of}
use Rattle.ds_boot.proofs.trees.each_lane_trees.Given as goal

abbrev pub invariant-loop-host : goal.invariant-loop-host
invariant-loop-host l = map trees_of l.trees.items ++ map lane_trees (drop l.host-index l.hosts) ≡ map lane_trees l.hosts
