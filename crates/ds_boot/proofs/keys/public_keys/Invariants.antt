use Rattle.std.proofs.Common.{◌≡◌, ◌++◌, drop, map}
use Rattle.ds_plan.specs.Keys.{host_key, host_keys}
use Rattle.ds_boot.proofs.keys.public_keys.Given as goal

abbrev pub invariant-loop-place : goal.invariant-loop-place
invariant-loop-place l =
    l.keys.items ++ map host_key (drop l.place l.hosts) ≡ host_keys l.hosts
