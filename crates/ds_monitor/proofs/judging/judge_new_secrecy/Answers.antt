use Rattle.std.proofs.Common.{true, false}
use Rattle.ds_monitor.proofs.Secrecy.{covered_is}
use Rattle.ds_monitor.proofs.judging.judge_new_secrecy.Goals as goal

pub returns-then-secrecy_is_covered : goal.returns-then-secrecy_is_covered
returns-then-secrecy_is_covered c = covered_is c.secrecy_is_covered.result true c.args.to.now c.args.label.now c.args.clear.now c.args.own.now c.secrecy_is_covered.ensures c.if-secrecy_is_covered.true

pub returns-else-secrecy_is_covered : goal.returns-else-secrecy_is_covered
returns-else-secrecy_is_covered c = covered_is c.secrecy_is_covered.result false c.args.to.now c.args.label.now c.args.clear.now c.args.own.now c.secrecy_is_covered.ensures c.if-secrecy_is_covered.false
