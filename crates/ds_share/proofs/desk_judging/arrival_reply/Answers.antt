use Rattle.std.proofs.Common.{sym, ◌∙◌}
use Rattle.ds_flow.specs.Chains.{flow_scheme}
use Rattle.ds_share.proofs.Arrivals.{clear_known, label_known, own_known}
use Rattle.ds_share.proofs.Judgements.{some_scheme}
use Rattle.ds_share.proofs.desk_judging.arrival_reply.Goals as goal

pub named-requires-clause-label : goal.named-requires-clause-label
named-requires-clause-label c =
    let desk = c.args.desk.now in
    rw (c.in_ok-rule.ensures.same, c.requires.table) (label_known (flow_scheme some_scheme) desk.store.items desk.table.rows desk.moment desk.here c.args.lane.now c.args.message.now (sym (c.in_ok-rule.ensures.rule some_scheme) ∙ c.in_default.is))

pub named-requires-clause-own : goal.named-requires-clause-own
named-requires-clause-own c =
    let desk = c.args.desk.now in
    rw (c.in_ok-rule.ensures.same, c.requires.table) (own_known (flow_scheme some_scheme) desk.store.items desk.table.rows desk.moment desk.here c.args.lane.now c.args.message.now (sym (c.in_ok-rule.ensures.rule some_scheme) ∙ c.in_default.is))

pub named-requires-clause-clear : goal.named-requires-clause-clear
named-requires-clause-clear c =
    let desk = c.args.desk.now in
    rw (c.in_ok-rule.ensures.same, c.requires.table) (clear_known (flow_scheme some_scheme) desk.store.items desk.table.rows desk.moment desk.here c.args.lane.now c.args.message.now (sym (c.in_ok-rule.ensures.rule some_scheme) ∙ c.in_default.is))
