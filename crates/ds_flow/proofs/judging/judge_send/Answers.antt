use Rattle.std.proofs.Common.{sym, ◌∙◌, ap, subst}
use Rattle.std.specs.Prelude.{Option, None}
use Rattle.ds_label.specs.declared.rule.Rule.{Rule}
use Rattle.ds_model.specs.ExporterRules.{lane_rule, sender_rule}
use Rattle.ds_model.specs.FirstRule.{or_else}
use Rattle.ds_flow.specs.Chains.{flow_scheme}
use Rattle.ds_flow.specs.Judged.{Judges}
use Rattle.ds_flow.proofs.Flows.{or_else_none}
use Rattle.ds_flow.proofs.judging.judge_send.Goals as goal

pub returns-clause-judged : goal.returns-clause-judged
returns-clause-judged c s =
    let rule : Option Rule = sender_rule (flow_scheme s) c.args.addresses.now.items c.args.store.now.items c.args.now c.args.to.now c.args.label.now in
    subst (λ z. Judges z c.judge_frame.result) (sym (ap (λ o. or_else (lane_rule o) (or_else rule None)) c.in-Some.is ∙ or_else_none rule)) (c.judge_frame.ensures.judged s)
