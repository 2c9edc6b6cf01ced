use Rattle.std.proofs.Common.{take}
use Rattle.ds_crew.specs.Histories.{HasMore, names_of_boxes}
use Rattle.ds_crew.proofs.object_histories.add_boxes.Given as goal

abbrev pub invariant-loop-seat : goal.invariant-loop-seat
invariant-loop-seat g l = HasMore (names_of_boxes l.host (take l.seat-index l.seats)) l.initial.out.items l.out.items
