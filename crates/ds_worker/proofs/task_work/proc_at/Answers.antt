use Rattle.std.proofs.Common.{◌≡◌, ◌+◌, length, ap, Err, arith}
use Rattle.ds_turn.specs.Nodes.{seen_of}
use Rattle.ds_turn.specs.ProcTurns.{TookProcTurn}
use Rattle.ds_worker.specs.Runs.{IsSame}
use Rattle.ds_worker.proofs.Stopping.{length_of_proc, stopped_as}
use Rattle.ds_worker.proofs.Working.{kept_so}
use Rattle.ds_worker.proofs.task_work.proc_at.Goals as goal

pub made_since-requires-clause-grew : goal.made_since-requires-clause-grew
made_since-requires-clause-grew g c =
    let grew : length c.work_proc.new.process.proc.events ≡ length c.args.process.now.proc.events + c.in-Err.ensures.err.0 = length_of_proc (seen_of c.args.node.now) c.in-Err.ensures.err.0 c.args.process.now.proc c.work_proc.new.process.proc c.in-Err.ensures.err.1 in
    omega (arith, ap length c.events-before.ensures.events, ap length c.events.ensures.events, grew)

pub made_since-requires-clause-few : goal.made_since-requires-clause-few
made_since-requires-clause-few g c =
    let grew : length c.work_proc.new.process.proc.events ≡ length c.args.process.now.proc.events + c.in-Err.ensures.err.0 = length_of_proc (seen_of c.args.node.now) c.in-Err.ensures.err.0 c.args.process.now.proc c.work_proc.new.process.proc c.in-Err.ensures.err.1 in
    omega (arith, ap length c.events-before.ensures.events, ap length c.events.ensures.events, grew, c.in-Err.ensures.err.1.few)

pub returns-in-Err-clause-made : goal.returns-in-Err-clause-made
returns-in-Err-clause-made g c =
    let grew : length c.work_proc.new.process.proc.events ≡ length c.args.process.now.proc.events + c.in-Err.ensures.err.0 = length_of_proc (seen_of c.args.node.now) c.in-Err.ensures.err.0 c.args.process.now.proc c.work_proc.new.process.proc c.in-Err.ensures.err.1 in
    let counted : c.made_since.result + length c.args.process.now.proc.events ≡ length c.work_proc.new.process.proc.events = omega (arith, c.made_since.ensures, ap length c.events-before.ensures.events, ap length c.events.ensures.events) in
    stopped_as (TookProcTurn (seen_of c.args.node.now)) IsSame c.in-Err.ensures.err.0 c.made_since.result (length c.args.process.now.proc.events) (length c.work_proc.new.process.proc.events) c.args.process.now.proc c.work_proc.new.process.proc c.in-Err.ensures.err.1 grew counted

pub returns-in-Err-clause-kept : goal.returns-in-Err-clause-kept
returns-in-Err-clause-kept g c =
    let grew : length c.work_proc.new.process.proc.events ≡ length c.args.process.now.proc.events + c.in-Err.ensures.err.0 = length_of_proc (seen_of c.args.node.now) c.in-Err.ensures.err.0 c.args.process.now.proc c.work_proc.new.process.proc c.in-Err.ensures.err.1 in
    let counted : c.made_since.result + length c.args.process.now.proc.events ≡ length c.work_proc.new.process.proc.events = omega (arith, c.made_since.ensures, ap length c.events-before.ensures.events, ap length c.events.ensures.events) in
    kept_so g.K.Keeper.faults c.in-Err.fault c.in-Err.ensures.err.0 c.made_since.result (length c.args.process.now.proc.events) (length c.work_proc.new.process.proc.events) c.args.keeper.now c.work_proc.new.keeper
    c.in-Err.ensures.faults (λ is. c.in-Err.ensures.fault (ap Err is)) c.in-Err.ensures.err.2 grew counted
