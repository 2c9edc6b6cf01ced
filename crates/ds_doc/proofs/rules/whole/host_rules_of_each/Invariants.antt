use Rattle.std.proofs.Common.{◌≡◌, ◌++◌, drop}
use Rattle.ds_doc.specs.Rules.{each_place, host_rules}
use Rattle.ds_doc.proofs.rules.whole.host_rules_of_each.Given as goal

abbrev pub invariant-loop-here : goal.invariant-loop-here
invariant-loop-here l =
    l.faults.items ++ each_place (host_rules l.facts) l.here (drop l.here l.hosts)
    ≡ l.initial.faults.items ++ each_place (host_rules l.facts) 0 l.hosts
