use Rattle.std.proofs.Common.{◌≡◌}
use Rattle.serde_json.specs.View.{members_view}
use Rattle.ds_doc.specs.Places.{◌⊕◌, member_from}
use Rattle.ds_doc.proofs.spot.Spot.member.Given as goal

abbrev pub invariant-loop-key : goal.invariant-loop-key
invariant-loop-key l = member_from l.name l.at (members_view l.key-iterator) ≡ member_from l.name (l.self.at ⊕ 1) (members_view l.initial.key-iterator)
