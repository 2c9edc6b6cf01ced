use Rattle.std.proofs.Common.{◌≡◌, ◌++◌, drop, map}
use Rattle.ds_doc.specs.Draft.{inlet_of}
use Rattle.ds_doc.specs.Seen.{seen}
use Rattle.ds_doc.proofs.reading.hosts.inlets_of.Given as goal

abbrev pub invariant-loop-spot : goal.invariant-loop-spot
invariant-loop-spot l =
    l.list ++ map (inlet_of l.names) (map seen (drop l.spot-index l.spots))
    ≡ map (inlet_of l.names) (map seen l.spots)
