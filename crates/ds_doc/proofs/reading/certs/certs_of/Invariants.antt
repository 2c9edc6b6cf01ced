use Rattle.std.proofs.Common.{◌≡◌, ◌++◌, drop, map, flat_map}
use Rattle.ds_doc.specs.Draft.{cert_of}
use Rattle.ds_doc.specs.Seen.{seen}
use Rattle.ds_doc.proofs.reading.certs.certs_of.Given as goal

abbrev pub invariant-loop-spot : goal.invariant-loop-spot
invariant-loop-spot l =
    l.list ++ flat_map (cert_of l.names) (map seen (drop l.spot-index l.spots))
    ≡ flat_map (cert_of l.names) (map seen l.spots)
