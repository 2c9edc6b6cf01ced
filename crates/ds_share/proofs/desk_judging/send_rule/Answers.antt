use Rattle.ds_model.specs.ExporterRules.{judge_send}
use Rattle.ds_flow.specs.Chains.{flow_scheme}
use Rattle.ds_share.proofs.desk_judging.send_rule.Goals as goal

pub returns-clause-rule : goal.returns-clause-rule
returns-clause-rule c =
    let desk = c.args.desk.now in
    λ s. c.verdict.ensures (judge_send (flow_scheme s) c.args.lane desk.addresses.items desk.store.items desk.moment c.args.to.now c.args.label.now) (c.judge_send.ensures.judged s)
