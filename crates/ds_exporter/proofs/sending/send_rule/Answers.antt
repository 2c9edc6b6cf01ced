use Rattle.std.proofs.Common.{map}
use Rattle.ds_desk.specs.Desks.{kept_of}
use Rattle.ds_exporter.specs.HostStates.{lane_of}
use Rattle.ds_exporter.proofs.Verdicts.{send_fault, send_ok}
use Rattle.ds_exporter.proofs.sending.send_rule.Goals as goal

pub returns-in-Ok-clause-rule : goal.returns-in-Ok-clause-rule
returns-in-Ok-clause-rule c = send_ok (kept_of c.args.desk.now) (map lane_of c.args.lanes.now.items) c.args.message.now c.args.lane c.in-Ok.field-0 c.requires (λ s. c.in-Ok.ensures.judged s)

pub returns-in-Err-Drop-clause-rule : goal.returns-in-Err-Drop-clause-rule
returns-in-Err-Drop-clause-rule c = send_fault (kept_of c.args.desk.now) (map lane_of c.args.lanes.now.items) c.args.message.now c.args.lane c.in-Err-Drop.field-0 c.in-Err-Drop.rule c.in-Err-Drop.field-0-is c.requires (λ s. c.in-Err-Drop.ensures.judged s)
