use Rattle.std.proofs.Common.{◌≡◌, ◌++◌, drop, map}
use Rattle.ds_doc.specs.Draft.{box_of}
use Rattle.ds_doc.specs.Seen.{seen}
use Rattle.ds_doc.proofs.reading.hosts.boxes_of.Given as goal

abbrev pub invariant-loop-spot : goal.invariant-loop-spot
invariant-loop-spot l =
    l.list ++ map (box_of l.names) (map seen (drop l.spot-index l.spots))
    ≡ map (box_of l.names) (map seen l.spots)
