use Rattle.std.proofs.Common.{◌≡◌, ◌++◌, drop, map}
use Rattle.ds_doc.specs.Draft.{placed_host}
use Rattle.ds_doc.specs.Seen.{seen}
use Rattle.ds_doc.proofs.reading.basics.hosts_named.Given as goal

abbrev pub invariant-loop-spot : goal.invariant-loop-spot
invariant-loop-spot l =
    l.hosts ++ map (placed_host l.names) (map seen (drop l.spot-index l.spots))
    ≡ map (placed_host l.names) (map seen l.spots)
