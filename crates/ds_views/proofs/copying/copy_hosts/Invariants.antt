use Rattle.std.proofs.Common.{◌≡◌, ◌++◌, drop}
use Rattle.ds_views.proofs.copying.copy_hosts.Given as goal

abbrev pub invariant-loop-host : goal.invariant-loop-host
invariant-loop-host l = l.copies ++ drop l.host-index l.hosts ≡ l.hosts
