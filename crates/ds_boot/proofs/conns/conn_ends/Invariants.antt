use Rattle.std.proofs.Common.{◌≡◌, ◌++◌, drop}
use Rattle.std.specs.List.{flat_map}
use Rattle.ds_boot.specs.Parts.{lane_ends}
use Rattle.ds_boot.proofs.conns.conn_ends.Given as goal

abbrev pub invariant-loop-host : goal.invariant-loop-host
invariant-loop-host l =
    l.ends.items ++ flat_map lane_ends (drop l.host-index l.doc.hosts) ≡ flat_map lane_ends l.doc.hosts
