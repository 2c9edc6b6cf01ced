use Rattle.std.proofs.Common.{sym, map, ◌∙◌}
use Rattle.ds_desk.specs.Desks.{kept_of}
use Rattle.ds_exporter.specs.HostStates.{box_of}
use Rattle.ds_exporter.proofs.DeliverVerdicts.{front_judged}
use Rattle.ds_exporter.proofs.judging.judge_front.Goals as goal

pub returns-clause-verdict : goal.returns-clause-verdict
returns-clause-verdict c =
    front_judged (kept_of c.args.desk.now) (map box_of c.args.boxes.now.items) c.args.conn.now.conn c.in_ok-verdict.verdict c.is_read_so_far.ensures c.in-Some-cert.lane (sym c.cert.ensures ∙ c.in-Some-cert.is)
    c.in-Some.message.now c.in-Some.ensures.first c.in_ok-verdict.ensures.verdict
