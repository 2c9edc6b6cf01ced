use Rattle.std.proofs.Common.{◌≡◌, [], map, flat_map, drop}
use Rattle.serde_json.specs.View.{view}
use Rattle.ds_doc.specs.Alike.{AreAlike}
use Rattle.ds_doc.specs.Shapes.{different_from, text_of}
use Rattle.ds_doc.proofs.judge.has_few_texts.Given as goal

abbrev pub invariant-loop-item : goal.invariant-loop-item
invariant-loop-item l = record {
  same : different_from (map (λ t. t.now) l.texts.items) (flat_map text_of (map view (drop l.item-index l.items)))
      ≡ different_from [] (flat_map text_of (map view l.items));
  alike : AreAlike (map (λ t. t.now) l.known.keys) (map (λ t. t.now) l.texts.items);
}
