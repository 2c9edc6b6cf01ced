use Rattle.std.proofs.Common.{◌≡◌, ◌++◌, drop, map}
use Rattle.ds_doc.specs.Values.{host}
use Rattle.ds_doc.proofs.values.hosts.hosts_of.Given as goal

abbrev pub invariant-loop-host : goal.invariant-loop-host
invariant-loop-host l =
    l.list ++ map (host l.keys) (drop l.host-index l.hosts)
    ≡ map (host l.keys) l.hosts
