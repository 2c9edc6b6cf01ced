use Rattle.ds_turn.specs.Nodes.{box_site, seen_of}
use Rattle.ds_turn.proofs.SeatPlaces.{stands_now}
use Rattle.ds_turn.proofs.ProcTurned.{puts}
use Rattle.ds_turn.proofs.proc.put_at.Goals as goal

pub returns-clause-ok : goal.returns-clause-ok
returns-clause-ok g c =
    puts (seen_of c.args.node.now) c.args.process.now c.put_turn.new.process.proc c.args.place (box_site c.index.result.now) c.args.message c.args.copy c.requires.empty c.requires.asks
    (stands_now box_site c.args.node.now.boxes.items c.args.place c.index.result.now c.requires.asks.range.0 c.index.ensures) c.in_ok-put_turn.ensures.ok
