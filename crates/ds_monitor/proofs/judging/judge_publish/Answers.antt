use Rattle.std.proofs.Common.{true, false}
use Rattle.ds_monitor.proofs.Secrecy.{publish_is}
use Rattle.ds_monitor.proofs.judging.judge_publish.Goals as goal

pub returns-then-secrecy_is_within : goal.returns-then-secrecy_is_within
returns-then-secrecy_is_within c = publish_is c.secrecy_is_within.result true c.args.label.now c.args.own.now c.secrecy_is_within.ensures c.if-secrecy_is_within.true

pub returns-else-secrecy_is_within : goal.returns-else-secrecy_is_within
returns-else-secrecy_is_within c = publish_is c.secrecy_is_within.result false c.args.label.now c.args.own.now c.secrecy_is_within.ensures c.if-secrecy_is_within.false
