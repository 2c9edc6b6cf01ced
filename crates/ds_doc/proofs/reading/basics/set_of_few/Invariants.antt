use Rattle.std.proofs.Common.{◌≡◌, [], drop, map}
use Rattle.ds_doc.specs.Draft.{with_each, placed_category}
use Rattle.ds_doc.specs.Seen.{seen}
use Rattle.ds_doc.proofs.reading.basics.set_of_few.Given as goal

abbrev pub invariant-loop-spot : goal.invariant-loop-spot
invariant-loop-spot l =
    with_each l.most l.set (map (placed_category l.names) (map seen (drop l.spot-index l.spots)))
    ≡ with_each l.most [] (map (placed_category l.names) (map seen l.spots))
