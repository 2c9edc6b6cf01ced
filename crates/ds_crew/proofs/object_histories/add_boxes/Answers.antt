use Rattle.ds_crew.proofs.Growing.{boxes_on}
use Rattle.ds_crew.proofs.object_histories.add_boxes.Goals as goal

pub loop-seat-preserved : goal.loop-seat-preserved
loop-seat-preserved g c =
    boxes_on c.args.host c.loop-seat.seat-index c.args.seats.now c.seat-item.result _ c.loop-seat.out.items c.add_box.new.out.items c.loop-seat-test.true c.seat-item.is
    c.loop-seat.invariant c.in_ok-add_box.ensures
