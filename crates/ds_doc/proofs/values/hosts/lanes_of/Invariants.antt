use Rattle.std.proofs.Common.{◌≡◌, ◌++◌, drop, map}
use Rattle.ds_doc.specs.Values.{lane}
use Rattle.ds_doc.proofs.values.hosts.lanes_of.Given as goal

abbrev pub invariant-loop-lane : goal.invariant-loop-lane
invariant-loop-lane l =
    l.list ++ map (lane l.keys) (drop l.lane-index l.lanes)
    ≡ map (lane l.keys) l.lanes
