use Rattle.std.proofs.Common.{◌≡◌, ◌≤◌}
use Rattle.ds_turn.specs.Nodes.{seen_of}
use Rattle.ds_turn.specs.ProcAsks.{MayStep}
use Rattle.ds_turn.specs.ProcTurns.{TookProcTurn}
use Rattle.ds_worker.specs.Runs.{Ran}
use Rattle.ds_worker.proofs.proc_work.work_proc.Given as goal

abbrev pub invariant-loop-made : goal.invariant-loop-made
invariant-loop-made g l = record {
  ran : Ran (TookProcTurn (seen_of l.node)) l.made l.initial.process.proc l.process.proc;
  may : MayStep (seen_of l.node) l.process.proc;
  faults : g.K.Keeper.faults l.initial.keeper ≤ g.K.Keeper.faults l.keeper;
  spared : l.made ≡ 0 → l.keeper ≡ l.initial.keeper;
}
