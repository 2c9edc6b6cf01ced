use Rattle.std.proofs.Common.{◌≡◌, ◌++◌, map}
use Rattle.ds_exporter.specs.HostStates.{inlet_of}
use Rattle.ds_exporter.specs.PlainHosts.{name_of_inlet}
use Rattle.ds_turn.specs.ConnTurns.{name_of_seat}
use Rattle.ds_crew.proofs.objects.seat_inlets.Given as goal

abbrev pub invariant-loop-part : goal.invariant-loop-part
invariant-loop-part l = map name_of_seat l.seats.items ++ map name_of_inlet (map inlet_of l.part-iterator.rest.items) ≡ map name_of_inlet (map inlet_of l.fn.parts.items)
