use Rattle.ds_turn.specs.Nodes.{box_site, seen_of}
use Rattle.ds_turn.proofs.SeatPlaces.{stands_now}
use Rattle.ds_turn.proofs.ProcTurned.{takes}
use Rattle.ds_turn.proofs.proc.take_at.Goals as goal

pub returns-clause-ok : goal.returns-clause-ok
returns-clause-ok g c =
    takes (seen_of c.args.node.now) c.args.process.now c.take_turn.new.process.proc c.in_ok-made.made c.args.place c.args.reg c.args.slot (box_site c.index.result.now) c.requires.empty c.requires.asks
    (stands_now box_site c.args.node.now.boxes.items c.args.place c.index.result.now c.requires.asks.range.0 c.index.ensures) c.in_ok-made.ensures.ok
