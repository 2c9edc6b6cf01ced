use Rattle.ds_model.specs.ExporterRules.{sender_rule}
use Rattle.ds_flow.specs.Chains.{flow_scheme}
use Rattle.ds_share.proofs.desk_judging.frame_rule.Goals as goal

pub returns-clause-rule : goal.returns-clause-rule
returns-clause-rule c =
    let desk = c.args.desk.now in
    λ s. c.verdict.ensures (sender_rule (flow_scheme s) desk.addresses.items desk.store.items desk.moment c.args.to.now c.args.label.now) (c.judge_frame.ensures.judged s)
