use Rattle.std.proofs.Common.{◌≡◌, ◌++◌, take, flat_map}
use Rattle.ds_doc.specs.Rules.{unknown_in_op}
use Rattle.ds_doc.proofs.rules.named.script_rules.Given as goal

abbrev pub invariant-loop-op : goal.invariant-loop-op
invariant-loop-op l = l.faults.items ≡ l.initial.faults.items ++ flat_map (unknown_in_op l.facts l.size) (take l.op-index l.ops)
