use Rattle.std.proofs.Common.{◌+◌, drop}
use Rattle.serde_json.specs.Data.{object}
use Rattle.serde_json.specs.View.{items_view, members_view}
use Rattle.ds_doc.specs.declared.form.Form.TheVariants.{Object}
use Rattle.ds_doc.specs.Places.{◌⊕◌, items_size, members_size}
use Rattle.ds_doc.specs.Shapes.{least, judged, judged_items, judged_each}
use Rattle.ds_doc.proofs.Judging.{AllLeft, MembersLeft, EachLeft}
use Rattle.ds_doc.proofs.judge.+judge.Given as goal

abbrev pub invariant-judge_all-loop-item : goal.invariant-judge_all-loop-item
invariant-judge_all-loop-item l =
    AllLeft l.form l.found l.place (items_view (drop l.item-index l.item-items))
    (least (judged_items l.form l.fn.at (items_view l.item-items))) (items_size l.fn.at (items_view l.item-items))

abbrev pub invariant-judge_members-loop-name : goal.invariant-judge_members-loop-name
invariant-judge_members-loop-name l =
    MembersLeft l.fn.object l.found l.place (members_view l.name-iterator)
    (least (judged (Object l.fn.object) l.fn.at (object (members_view l.initial.name-iterator))))
    (l.fn.at ⊕ members_size 1 (members_view l.initial.name-iterator))

abbrev pub invariant-judge_each-loop-index : goal.invariant-judge_each-loop-index
invariant-judge_each-loop-index l =
    EachLeft (drop l.index l.forms) l.found l.place (items_view (drop (l.index + 1) l.items.items))
    (least (judged_each l.forms l.fn.at (items_view (drop 1 l.items.items)))) (items_size l.fn.at (items_view (drop 1 l.items.items)))
