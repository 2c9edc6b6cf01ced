use Rattle.ds_turn.specs.Nodes.{seen_of}
use Rattle.ds_turn.proofs.ProcTurned.{took}
use Rattle.ds_turn.proofs.proc.answered_turn.Goals as goal

pub returns-in_ok-made-in-TakeFrom-clause-ok : goal.returns-in_ok-made-in-TakeFrom-clause-ok
returns-in_ok-made-in-TakeFrom-clause-ok g c =
    took (seen_of c.args.node.now) c.args.process.now.proc c.take_at.new.process.proc c.in_ok-made-in-TakeFrom.made c.in_ok-made-in-TakeFrom.ensures.ok
