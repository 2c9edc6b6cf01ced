use Rattle.std.proofs.Common.{◌≡◌, ◌++◌, drop, map}
use Rattle.serde_json.specs.View.{items_view}
use Rattle.ds_doc.specs.Places.{◌⊕◌, items_from}
use Rattle.ds_doc.specs.Seen.{seen}
use Rattle.ds_doc.proofs.spot.Spot.items.Given as goal

abbrev pub invariant-loop-value : goal.invariant-loop-value
invariant-loop-value l =
    map seen l.spots.items ++ items_from l.at (items_view (drop l.value-index l.value-items))
    ≡ items_from (l.self.at ⊕ 1) (items_view l.value-items)
