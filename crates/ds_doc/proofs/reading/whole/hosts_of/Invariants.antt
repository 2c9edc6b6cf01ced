use Rattle.std.proofs.Common.{◌≡◌, ◌++◌, drop, map}
use Rattle.ds_doc.specs.Draft.{host_of}
use Rattle.ds_doc.specs.Seen.{seen}
use Rattle.ds_doc.proofs.reading.whole.hosts_of.Given as goal

abbrev pub invariant-loop-spot : goal.invariant-loop-spot
invariant-loop-spot l =
    l.list ++ map (host_of l.names) (map seen (drop l.spot-index l.spots))
    ≡ map (host_of l.names) (map seen l.spots)
