use Rattle.std.proofs.Common.{◌+◌, refl, arith}
use Rattle.ds_turn.specs.Nodes.{seen_of}
use Rattle.ds_turn.specs.ProcTurns.{TookProcTurn}
use Rattle.ds_worker.specs.Actors.{ProcRests}
use Rattle.ds_worker.proofs.Running.{made_none, made_one, ran_more, worked_less}
use Rattle.ds_worker.proofs.proc_work.work_proc.Goals as goal

pub returns-then-not-branch-clause-ok : goal.returns-then-not-branch-clause-ok
returns-then-not-branch-clause-ok g c =
    let still = made_none _ _ c.in_ok-proc_turn.field-0 c.in_ok-proc_turn.ensures.ok c.if-not-branch.true in
    worked_less (TookProcTurn (seen_of c.args.node.now)) (ProcRests (seen_of c.args.node.now)) c.loop-made.made c.args.process.now.proc c.loop-made.process.proc c.proc_turn.new.process.proc
    c.loop-made-test.true c.loop-made.invariant.ran still.0 (record { empty = still.1; why = still.2 })

pub loop-made-preserved : goal.loop-made-preserved
loop-made-preserved g c = record {
  ran = ran_more (TookProcTurn (seen_of c.args.node.now)) c.loop-made.made (c.loop-made.made + 1) c.args.process.now.proc c.loop-made.process.proc c.proc_turn.new.process.proc
      c.loop-made.invariant.ran (made_one _ _ c.in_ok-proc_turn.field-0 c.in_ok-proc_turn.ensures.ok c.if-not-branch.false) refl;
  may = c.in_ok-proc_turn.ensures.may;
  faults = omega (arith, c.loop-made.invariant.faults, c.in_ok-proc_turn.ensures.faults);
  spared = λ e. absurd (omega arith);
}
