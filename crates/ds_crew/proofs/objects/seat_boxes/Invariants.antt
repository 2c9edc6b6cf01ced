use Rattle.std.proofs.Common.{◌≡◌, ◌++◌, map}
use Rattle.ds_exporter.specs.HostStates.{box_of}
use Rattle.ds_exporter.specs.Sites.{box_site}
use Rattle.ds_turn.specs.Nodes.{box_site as seat_site}
use Rattle.ds_crew.proofs.objects.seat_boxes.Given as goal

abbrev pub invariant-loop-part : goal.invariant-loop-part
invariant-loop-part l = map seat_site l.seats.items ++ map box_site (map box_of l.part-iterator.rest.items) ≡ map box_site (map box_of l.fn.parts.items)
