use Rattle.std.proofs.Common.{◌≡◌, ◌++◌, drop}
use Rattle.ds_views.proofs.copying.copy_processes.Given as goal

abbrev pub invariant-loop-process : goal.invariant-loop-process
invariant-loop-process l = l.copies ++ drop l.process-index l.procs ≡ l.procs
