use Rattle.ds_desk.specs.Desks.{kept_of}
use Rattle.ds_exporter.proofs.DeliverVerdicts.{arrival_ok, arrival_fault}
use Rattle.ds_exporter.proofs.judging.arrival_rule.Goals as goal

pub returns-in-Ok-clause-rule : goal.returns-in-Ok-clause-rule
returns-in-Ok-clause-rule c = arrival_ok (kept_of c.args.desk.now) c.args.lane.now c.args.message.now c.in-Ok.field-0 (λ s. c.in-Ok.ensures.judged s)

pub returns-in-Err-Drop-clause-rule : goal.returns-in-Err-Drop-clause-rule
returns-in-Err-Drop-clause-rule c = arrival_fault (kept_of c.args.desk.now) c.args.lane.now c.args.message.now c.in-Err-Drop.field-0 c.in-Err-Drop.rule c.in-Err-Drop.field-0-is (λ s. c.in-Err-Drop.ensures.judged s)
