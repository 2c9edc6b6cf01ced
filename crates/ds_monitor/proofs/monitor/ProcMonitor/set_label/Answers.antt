use Rattle.std.proofs.Common.{Err, Ok, ap}
use Rattle.std.specs.Result.{result_err}
use Rattle.ds_monitor.specs.declared.fault.ProcFault.TheVariants.{Refused}
use Rattle.ds_monitor.proofs.Names.{relabel_names}
use Rattle.ds_monitor.proofs.monitor.ProcMonitor.set_label.Goals as goal

pub returns-in-Err-clause-names : goal.returns-in-Err-clause-names
returns-in-Err-clause-names c =
    let p = c.args.self.now.process in
    relabel_names (Err (Refused c.in-Err.rule)) p.label p.own p.clear c.args.label (cc (c.judge_label.ensures, ap result_err c.in-Err.is))

pub returns-clause-names : goal.returns-clause-names
returns-clause-names c =
    let p = c.args.self.now.process in
    relabel_names (Ok tt) p.label p.own p.clear c.args.label (cc (c.judge_label.ensures, ap result_err c.in_default.is))
