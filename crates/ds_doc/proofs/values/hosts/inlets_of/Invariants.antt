use Rattle.std.proofs.Common.{◌≡◌, ◌++◌, drop, map}
use Rattle.ds_doc.specs.Values.{inlet}
use Rattle.ds_doc.proofs.values.hosts.inlets_of.Given as goal

abbrev pub invariant-loop-inlet : goal.invariant-loop-inlet
invariant-loop-inlet l =
    l.list ++ map (inlet) (drop l.inlet-index l.inlets)
    ≡ map (inlet) l.inlets
