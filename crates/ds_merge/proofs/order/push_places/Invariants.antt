use Rattle.std.proofs.Common.{◌≡◌, ◌++◌, take, All}
use Rattle.ds_merge.specs.Tables.{events_of, IsPlace}
use Rattle.ds_merge.proofs.order.push_places.Given as goal

abbrev pub invariant-loop-at : goal.invariant-loop-at
invariant-loop-at l =
    (events_of l.records l.places.items ≡ events_of l.records l.initial.places.items ++ take l.at l.events) × All (IsPlace l.records) l.places.items
