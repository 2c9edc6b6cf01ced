use Rattle.std.proofs.Common.{◌≡◌, ◌++◌, take, flat_map}
use Rattle.ds_doc.specs.Rules.{unknown_category}
use Rattle.ds_doc.proofs.rules.named.category_rules.Given as goal

abbrev pub invariant-loop-category : goal.invariant-loop-category
invariant-loop-category l = l.faults.items ≡ l.initial.faults.items ++ flat_map (unknown_category l.facts) (take l.category-index l.categories)
