use Rattle.std.proofs.Common.{◌≡◌, ◌++◌, take, flat_map}
use Rattle.ds_doc.specs.Rules.{inlet_rules}
use Rattle.ds_doc.proofs.rules.hosts.inlets_rules.Given as goal

abbrev pub invariant-loop-inlet : goal.invariant-loop-inlet
invariant-loop-inlet l = l.faults.items ≡ l.initial.faults.items ++ flat_map (inlet_rules l.facts) (take l.inlet-index l.inlets)
