use Rattle.std.proofs.Common.{◌≡◌, ◌++◌, take, flat_map}
use Rattle.ds_doc.specs.Rules.{state_rules}
use Rattle.ds_doc.proofs.rules.named.state_rules.Given as goal

abbrev pub invariant-loop-category : goal.invariant-loop-category
invariant-loop-category l = l.faults.items ≡ l.initial.faults.items ++ flat_map (state_rules l.facts l.here l.rows) (take l.category-index l.label)
