use Rattle.std.proofs.lemmas.List.Sorted.{All-permutation}
use Rattle.ds_merge.specs.Tables.{IsPlace}
use Rattle.ds_merge.proofs.Spots.{sorted_events}
use Rattle.ds_merge.proofs.order.merged.Goals as goal

pub returns-clause-list : goal.returns-clause-list
returns-clause-list c =
    let sort = c.in_ok-sort_places.ensures in
    let made = c.in_ok-places.ensures in
    sorted_events c.args.records.now c.in_ok-places.places.items c.sort_places.new.places.items made.places
    (All-permutation (IsPlace c.args.records.now) c.in_ok-places.places.items c.sort_places.new.places.items sort.all made.places)
    made.list sort.sorted sort.stable

pub returns-clause-places : goal.returns-clause-places
returns-clause-places c =
    All-permutation (IsPlace c.args.records.now) c.in_ok-places.places.items c.sort_places.new.places.items c.in_ok-sort_places.ensures.all c.in_ok-places.ensures.places
