use Rattle.ds_desk.specs.Desks.{desk_of}
use Rattle.ds_exporter.proofs.Judged.{judged_ok, judged_fault}
use Rattle.ds_exporter.proofs.checking.frame_rule.Goals as goal

pub returns-in-Ok-clause-rule : goal.returns-in-Ok-clause-rule
returns-in-Ok-clause-rule c = judged_ok (desk_of c.args.desk.now) c.args.cert.now c.in-Ok.field-0 (λ s. c.in-Ok.ensures.judged s)

pub returns-in-Err-Drop-clause-rule : goal.returns-in-Err-Drop-clause-rule
returns-in-Err-Drop-clause-rule c = judged_fault (desk_of c.args.desk.now) c.args.cert.now c.in-Err-Drop.field-0 c.in-Err-Drop.rule c.in-Err-Drop.field-0-is (λ s. c.in-Err-Drop.ensures.judged s)
