use Rattle.std.proofs.Common.{◌≡◌, ◌++◌, drop, map, flat_map}
use Rattle.ds_doc.specs.Draft.{event_of}
use Rattle.ds_doc.specs.Seen.{seen}
use Rattle.ds_doc.proofs.reading.events.events_of.Given as goal

abbrev pub invariant-loop-spot : goal.invariant-loop-spot
invariant-loop-spot l =
    l.list ++ flat_map (event_of l.names) (map seen (drop l.spot-index l.spots))
    ≡ flat_map (event_of l.names) (map seen l.spots)
