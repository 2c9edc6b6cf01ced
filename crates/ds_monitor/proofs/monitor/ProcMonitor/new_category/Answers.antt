use Rattle.std.proofs.Common.{Err, Ok, ap, arith}
use Rattle.std.specs.Result.{result_err}
use Rattle.ds_model.specs.Mapping.{next_category}
use Rattle.ds_monitor.specs.declared.fault.ProcFault.TheVariants.{Refused}
use Rattle.ds_monitor.proofs.Names.{make_names}
use Rattle.ds_monitor.proofs.monitor.ProcMonitor.new_category.Goals as goal

pub returns-in-Err-clause-names : goal.returns-in-Err-clause-names
returns-in-Err-clause-names c =
    let p = c.args.self.now.process in
    make_names (Err (Refused c.in-Err.rule)) c.args.here.now c.args.index p.made c.args.kind p.own c.requires.index (omega arith) (cc (c.judge_make.ensures, c.home_number-local.ensures, c.made.ensures, ap result_err c.in-Err.is))

pub returns-clause-names : goal.returns-clause-names
returns-clause-names c =
    let p = c.args.self.now.process in
    make_names (Ok (next_category c.args.here.now c.args.index p.made c.args.kind)) c.args.here.now c.args.index p.made c.args.kind p.own c.requires.index (omega arith) (cc (c.judge_make.ensures, c.home_number-local.ensures, c.made.ensures, ap result_err c.in_default.is))
