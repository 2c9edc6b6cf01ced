use Rattle.std.proofs.Common.{◌≡◌, take, map}
use Rattle.ds_setup.specs.Lists.{each, joined}
use Rattle.ds_exporter.specs.HostStates.{connection_of}
use Rattle.ds_boot.specs.Parts.{conn_begun}
use Rattle.ds_boot.proofs.conns.begin_conns.Given as goal

abbrev pub invariant-loop-number : goal.invariant-loop-number
invariant-loop-number l =
    map connection_of l.conns.items ≡ joined (each (conn_begun l.place l.key l.names) (take l.number l.ends))
