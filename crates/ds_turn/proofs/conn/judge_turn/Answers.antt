use Rattle.ds_turn.proofs.ConnMade.{judges_is}
use Rattle.ds_turn.proofs.conn.judge_turn.Goals as goal

pub returns-clause-ok : goal.returns-clause-ok
returns-clause-ok g c =
    judges_is c.args.node.now.boxes.items c.args.conn.now.link c.reserve.new.self.link c.judged.new.self.link c.in_ok-receipt.receipt c.in_ok-receipt.verdict
    c.in_ok-reserve.ensures.same c.requires.free c.in_ok-receipt.ensures.judged c.judged.ensures
