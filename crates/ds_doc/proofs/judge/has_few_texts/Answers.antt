use Rattle.std.proofs.Common.{◌<◌, map, flat_map, drop, length, arith, rules}
use Rattle.std.proofs.lemmas.List.{length-map}
use Rattle.serde_json.specs.View.{view}
use Rattle.ds_doc.specs.Shapes.{text_of}
use Rattle.ds_doc.proofs.Different.{few_enough, too_long}
use Rattle.ds_doc.proofs.judge.has_few_texts.Goals as goal

pub returns-then-items-most : goal.returns-then-items-most
returns-then-items-most c = few_enough c.args.items.now c.args.most c.if-items-most.true

pub returns-then-len-most : goal.returns-then-len-most
returns-then-len-most c =
    let l = c.loop-item in
    let many : c.args.most < length l.texts.items = search rules in
    too_long (map (λ t. t.now) l.texts.items) (flat_map text_of (map view (drop l.item-index c.args.items.now))) _ c.args.most l.invariant.same
    (omega (arith, many, length-map l.texts.items (λ t. t.now)))
