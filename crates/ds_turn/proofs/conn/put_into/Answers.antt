use Rattle.ds_turn.proofs.ConnSteps.{slot_at}
use Rattle.ds_turn.proofs.conn.put_into.Goals as goal

pub put_at-requires-clause-seat : goal.put_at-requires-clause-seat
put_at-requires-clause-seat g c = slot_at c.args.boxes.now c.args.slot c.in-Some.place c.index-boxes-place.result c.in-Some.ensures.place c.index-boxes-place.is
