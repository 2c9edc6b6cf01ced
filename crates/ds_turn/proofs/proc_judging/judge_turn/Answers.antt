use Rattle.std.proofs.Common.{◌<◌, List, subst}
use Rattle.std.specs.Prelude.{ℕ}
use Rattle.ds_cert.specs.declared.lane.LaneCert.{LaneCert}
use Rattle.ds_share.specs.declared.desk_act.DeskAct.{DeskAct}
use Rattle.ds_share.specs.Desks.{IsSendAnswer, SaysOf, SaysOfJudging}
use Rattle.ds_turn.specs.Nodes.{seen_of}
use Rattle.ds_turn.specs.ProcCerts.{number_at}
use Rattle.ds_turn.proofs.ProcSteps.{judges}
use Rattle.ds_turn.proofs.proc_judging.judge_turn.Goals as goal

pub returns-clause-ok : goal.returns-clause-ok
returns-clause-ok g c =
    let r = c.in_ok-receipt.receipt in
    let says = subst (λ (act : DeskAct). SaysOf act c.in_ok-receipt.reply r.act r.body r.given) c.in_ok-act.ensures c.in_ok-receipt.ensures.ok.says in
    let so = subst (λ (lanes : List LaneCert). SaysOfJudging (IsSendAnswer (number_at lanes c.lane_to-place.result)) c.in_ok-receipt.reply r.act r.body r.given) c.as_slice.ensures.value says in
    judges (seen_of c.args.node.now) c.args.process.now.proc c.judged_turn.new.process.proc c.args.message c.lane_to-place.result c.in_ok-receipt.reply r c.desk_event-event.result
    c.requires.empty c.requires.asks.going c.requires.asks.asked c.lane_to-place.ensures.place
    (subst (λ (n : ℕ). n < r.stamp) c.stamp.ensures c.in_ok-receipt.ensures.ok.later) so
    c.desk_event-event.ensures c.judged_turn.ensures.range c.judged_turn.ensures.process
