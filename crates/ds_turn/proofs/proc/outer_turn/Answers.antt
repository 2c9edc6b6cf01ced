use Rattle.std.proofs.Common.{sym, ◌∙◌}
use Rattle.ds_turn.specs.Nodes.{seen_of}
use Rattle.ds_turn.proofs.ProcTurned.{outer_ask, turned}
use Rattle.ds_turn.proofs.proc.outer_turn.Goals as goal

pub returns-clause-ok : goal.returns-clause-ok
returns-clause-ok g c =
    let site = seen_of c.args.node.now in
    let asked = outer_ask site c.args.process.now.proc c.ask_turn.new.process c.in_ok-ask.ask c.in_ok-ask.ensures.ok (sym c.is_inside.ensures ∙ c.if-is_inside.false) in
    turned site c.args.process.now.proc c.ask_turn.new.process.proc c.answered_turn.new.process.proc c.in_ok-made.made asked.0 c.in_ok-made.ensures.ok
