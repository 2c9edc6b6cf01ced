use Rattle.ds_model.specs.ExporterRules.{receiver_rule}
use Rattle.ds_flow.specs.Chains.{flow_scheme}
use Rattle.ds_share.proofs.desk_judging.arrival_rule.Goals as goal

pub returns-clause-rule : goal.returns-clause-rule
returns-clause-rule c =
    let desk = c.args.desk.now in
    λ s. c.verdict.ensures (receiver_rule (flow_scheme s) desk.store.items desk.table.rows desk.moment desk.here c.args.lane.now c.args.message.now) (c.judge_arrive.ensures.judged s)
