use Rattle.std.proofs.Common.{◌≡◌, ◌++◌, take, flat_map}
use Rattle.ds_doc.specs.Rules.{unknown_host}
use Rattle.ds_doc.proofs.rules.named.host_rules.Given as goal

abbrev pub invariant-loop-name : goal.invariant-loop-name
invariant-loop-name l = l.faults.items ≡ l.initial.faults.items ++ flat_map (unknown_host l.facts) (take l.name-index l.names)
