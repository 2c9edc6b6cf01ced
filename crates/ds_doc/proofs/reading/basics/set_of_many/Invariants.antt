use Rattle.std.proofs.Common.{◌≡◌, [], drop, map}
use Rattle.ds_doc.specs.Draft.{with_each, placed_category}
use Rattle.ds_doc.specs.Seen.{seen}
use Rattle.ds_doc.specs.Counting.{AreCounted}
use Rattle.ds_doc.proofs.reading.basics.set_of_many.Given as goal

abbrev pub invariant-loop-spot : goal.invariant-loop-spot
invariant-loop-spot l = record {
  same : with_each l.most l.set (map (placed_category l.names) (map seen (drop l.spot-index l.spots)))
      ≡ with_each l.most [] (map (placed_category l.names) (map seen l.spots));
  counted : AreCounted l.most l.names l.set (map (λ t. t.now) l.known.keys);
}
