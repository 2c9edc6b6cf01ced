use Rattle.std.proofs.Common.{◌≡◌, ◌++◌, drop, map}
use Rattle.ds_exporter.specs.HostStates.{connection_of}
use Rattle.ds_exporter.specs.PlainHosts.{arrived_of}
use Rattle.ds_views.proofs.seeing.all_arrived.Given as goal

abbrev pub invariant-loop-conn : goal.invariant-loop-conn
invariant-loop-conn l =
    l.all ++ map arrived_of (map connection_of (drop l.conn-index l.conns)) ≡ map arrived_of (map connection_of l.conns)
