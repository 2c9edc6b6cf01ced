use Rattle.std.proofs.Common.{◌≡◌, ◌++◌, take, flat_map, map}
use Rattle.ds_exporter.specs.HostStates.{process_of}
use Rattle.ds_summary.specs.Parts.{process_part}
use Rattle.ds_summary.proofs.parts.push_processes.Given as goal

abbrev pub invariant-loop-process : goal.invariant-loop-process
invariant-loop-process l = l.out.items ≡ l.initial.out.items ++ flat_map process_part (map process_of (take l.process-index l.processes))
