use Rattle.std.specs.Result.{result_err}
use Rattle.ds_monitor.proofs.Names.{send_names}
use Rattle.ds_monitor.proofs.monitor.ProcMonitor.may_send.Goals as goal

pub returns-clause-names : goal.returns-clause-names
returns-clause-names c =
    let p = c.args.self.now.process in
    send_names (result_err c.judge_send.result) p.label p.own p.clear c.args.label.now c.args.own.now c.args.clear.now c.judge_send.ensures
