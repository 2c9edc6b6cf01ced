use Rattle.std.proofs.Common.{◌≡◌, ◌++◌, take, flat_map}
use Rattle.ds_doc.specs.Rules.{proc_rules}
use Rattle.ds_doc.proofs.rules.hosts.procs_rules.Given as goal

abbrev pub invariant-loop-process : goal.invariant-loop-process
invariant-loop-process l = l.faults.items ≡ l.initial.faults.items ++ flat_map (proc_rules l.facts l.here l.rows) (take l.process-index l.procs)
