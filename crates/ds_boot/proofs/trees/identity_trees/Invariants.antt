use Rattle.std.proofs.Common.{◌≡◌, ◌++◌, drop, map}
use Rattle.ds_plan.specs.Keys.{identity_key}
use Rattle.ds_boot.proofs.trees.identity_trees.Given as goal

abbrev pub invariant-loop-host : goal.invariant-loop-host
invariant-loop-host l = l.trees.items ++ map identity_key (drop l.host-index l.hosts) ≡ map identity_key l.hosts
