use Rattle.std.proofs.Common.{◌≡◌, ◌++◌, take, flat_map}
use Rattle.ds_doc.specs.Rules.{lane_category_rules}
use Rattle.ds_doc.proofs.rules.named.lane_category_rules.Given as goal

abbrev pub invariant-loop-category : goal.invariant-loop-category
invariant-loop-category l = l.faults.items ≡ l.initial.faults.items ++ flat_map (lane_category_rules l.facts) (take l.category-index l.label)
