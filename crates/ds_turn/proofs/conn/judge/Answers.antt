use Rattle.std.proofs.Common.{sym, ◌∙◌}
use Rattle.ds_turn.proofs.ConnMade.{judged_is}
use Rattle.ds_turn.proofs.conn.judge.Goals as goal

pub returns-clause-judged : goal.returns-clause-judged
returns-clause-judged g c =
    judged_is c.args.node.now.boxes.items c.deref.result.now c.args.conn.now.link c.conn.result.now.conn c.conn-2.result.now.conn c.stamp.result c.in_ok-receipt.receipt c.verdict_of-verdict.result
    c.in-Some-cert.lane c.in-Some.message.now c.in_ok-receipt.reply c.conn.ensures c.conn-2.ensures c.stamp.ensures c.deref.ensures.value
    c.in-Some.ensures.first (sym c.cert.ensures ∙ c.in-Some-cert.is) c.in_ok-receipt.ensures c.verdict_of-verdict.ensures
