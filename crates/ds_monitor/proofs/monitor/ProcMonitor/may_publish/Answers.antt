use Rattle.std.specs.Result.{result_err}
use Rattle.ds_monitor.proofs.Names.{publish_names}
use Rattle.ds_monitor.proofs.monitor.ProcMonitor.may_publish.Goals as goal

pub returns-clause-names : goal.returns-clause-names
returns-clause-names c =
    let p = c.args.self.now.process in
    publish_names (result_err c.judge_publish.result) p.label p.own (cc c.judge_publish.ensures)
