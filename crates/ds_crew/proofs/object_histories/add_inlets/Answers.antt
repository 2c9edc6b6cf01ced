use Rattle.std.proofs.Common.{◌+◌, drop}
use Rattle.ds_turn.specs.Records.{inlet_name}
use Rattle.ds_crew.specs.Histories.{names_of_inlets}
use Rattle.ds_crew.proofs.Growing.{inlets_left, names_on}
use Rattle.ds_crew.proofs.object_histories.add_inlets.Goals as goal

pub loop-seat-preserved : goal.loop-seat-preserved
loop-seat-preserved g c =
    let left = names_of_inlets c.args.host c.loop-seat.place (drop c.loop-seat.seat-index c.args.seats.now) in
    let rest = names_of_inlets c.args.host c.in-Some.next (drop (c.loop-seat.seat-index + 1) c.args.seats.now) in
    record {
      objects = names_on c.loop-seat.out.items c.add_inlet.new.out.items (inlet_name c.args.host c.loop-seat.place) left rest _ c.in_ok-add_inlet.ensures
          (inlets_left c.args.host c.loop-seat.place c.in-Some.next c.loop-seat.seat-index c.args.seats.now c.seat-item.result c.loop-seat-test.true c.in-Some.ensures.1) c.loop-seat.invariant.objects;
      each = λ all. c.in_ok-add_inlet.ensures.each (c.loop-seat.invariant.each all);
    }
