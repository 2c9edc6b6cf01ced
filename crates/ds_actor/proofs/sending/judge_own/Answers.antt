use Rattle.std.proofs.Common.{Some, sym, ◌∙◌}
use Rattle.ds_actor.proofs.Sends.{judged, may}
use Rattle.ds_actor.proofs.sending.judge_own.Goals as goal

pub returns-in-Err : goal.returns-in-Err
returns-in-Err c = λ rows table agreed named.
    judged c.args.here.now rows table c.args.process.now.process c.args.label.now c.args.own.now c.args.clear.now agreed
    c.as_slice-label.ensures.rising c.as_slice-own.ensures.rising c.as_slice-clear.ensures.rising
    c.in_ok-numbers.numbers c.in_ok-numbers.ensures.label c.in_ok-numbers.ensures.own c.in_ok-numbers.ensures.clear named
    (sym c.unknown_rule.ensures ∙ c.in_default.is) (Some c.in-Err.rule) (sym c.in-Err.ensures.rule)

pub returns : goal.returns
returns c = λ rows table agreed named.
    may c.args.here.now rows table c.args.process.now.process c.args.label.now c.args.own.now c.args.clear.now agreed
    c.as_slice-label.ensures.rising c.as_slice-own.ensures.rising c.as_slice-clear.ensures.rising
    c.in_ok-numbers.numbers c.in_ok-numbers.ensures.label c.in_ok-numbers.ensures.own c.in_ok-numbers.ensures.clear named
    (sym c.unknown_rule.ensures ∙ c.in_default.is) (sym c.in_default-may_send.ensures.rule)
