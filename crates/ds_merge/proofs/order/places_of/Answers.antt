use Rattle.ds_merge.proofs.Spots.{one_record_more}
use Rattle.ds_merge.proofs.order.places_of.Goals as goal

pub loop-record_place-preserved : goal.loop-record_place-preserved
loop-record_place-preserved c = (
  one_record_more c.args.records.now c.loop-record_place.record_place c.loop-record_place.places.items c.push_places.new.places.items c.loop-record_place-test.true
      c.in_ok-push_places.ensures.list c.loop-record_place.invariant.0,
  c.in_ok-push_places.ensures.places,
)
