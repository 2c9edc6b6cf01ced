use Rattle.std.proofs.Common.{◌≡◌, take, All}
use Rattle.ds_merge.specs.Order.{all_events}
use Rattle.ds_merge.specs.Tables.{events_of, IsPlace}
use Rattle.ds_merge.proofs.order.places_of.Given as goal

abbrev pub invariant-loop-record_place : goal.invariant-loop-record_place
invariant-loop-record_place l =
    (events_of l.records l.places.items ≡ all_events (take l.record_place l.records)) × All (IsPlace l.records) l.places.items
