use Rattle.std.proofs.Common.{◌≡◌, drop}
use Rattle.ds_sim.specs.Routing.{hosts_from}
use Rattle.ds_sim.proofs.routing.push_hosts.Given as goal

abbrev pub invariant-loop-place : goal.invariant-loop-place
invariant-loop-place l = hosts_from l.initial.routes.items 0 l.hosts ≡ hosts_from l.routes.items l.place (drop l.place l.hosts)
