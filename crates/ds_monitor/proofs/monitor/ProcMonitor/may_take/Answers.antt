use Rattle.std.specs.Result.{result_err}
use Rattle.ds_monitor.proofs.Names.{take_names}
use Rattle.ds_monitor.proofs.monitor.ProcMonitor.may_take.Goals as goal

pub returns-clause-names : goal.returns-clause-names
returns-clause-names c =
    let p = c.args.self.now.process in
    take_names (result_err c.judge_take.result) c.args.label.now p.label p.own c.judge_take.ensures
