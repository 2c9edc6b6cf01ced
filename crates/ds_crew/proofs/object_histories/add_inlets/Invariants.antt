use Rattle.std.proofs.Common.{◌≡◌, ◌++◌, drop, map}
use Rattle.std.specs.Prelude.{All}
use Rattle.ds_crew.specs.Histories.{IsHistory, names_of_inlets, object_in}
use Rattle.ds_crew.proofs.object_histories.add_inlets.Given as goal

abbrev pub invariant-loop-seat : goal.invariant-loop-seat
invariant-loop-seat g l = record {
  objects : map object_in l.out.items ++ names_of_inlets l.host l.place (drop l.seat-index l.seats) ≡ map object_in l.initial.out.items ++ names_of_inlets l.host 0 l.seats;
  each : All IsHistory l.initial.out.items → All IsHistory l.out.items;
}
