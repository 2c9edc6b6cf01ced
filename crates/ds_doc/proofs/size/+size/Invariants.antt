use Rattle.std.proofs.Common.{◌≡◌, drop}
use Rattle.serde_json.specs.View.{items_view, members_view}
use Rattle.ds_doc.specs.Places.{items_size, members_size}
use Rattle.ds_doc.proofs.size.+size.Given as goal

abbrev pub invariant-items_size-loop-item : goal.invariant-items_size-loop-item
invariant-items_size-loop-item l = items_size l.count (items_view (drop l.item-index l.item-items)) ≡ items_size 1 (items_view l.item-items)

abbrev pub invariant-members_size-loop-member : goal.invariant-members_size-loop-member
invariant-members_size-loop-member l = members_size l.count (members_view l.member-iterator) ≡ members_size 1 (members_view l.members.entries)
