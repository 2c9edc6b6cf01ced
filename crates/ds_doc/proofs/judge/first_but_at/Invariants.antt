use Rattle.std.proofs.Common.{◌≡◌}
use Rattle.serde_json.specs.View.{members_view}
use Rattle.ds_doc.specs.Places.{◌⊕◌}
use Rattle.ds_doc.specs.Shapes.{first_but_at}
use Rattle.ds_doc.proofs.judge.first_but_at.Given as goal

abbrev pub invariant-loop-name : goal.invariant-loop-name
invariant-loop-name l = first_but_at l.place (members_view l.name-iterator) ≡ first_but_at (l.at ⊕ 1) (members_view l.initial.name-iterator)
