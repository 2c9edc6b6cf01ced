use Rattle.std.proofs.Common.{map, ap}
use Rattle.ds_crew.specs.ActorEvents.{of_lane}
use Rattle.ds_crew.proofs.Growing.{records_on, rising_on}
use Rattle.ds_crew.proofs.actor_records.add_lanes.Goals as goal

pub loop-lane-preserved : goal.loop-lane-preserved
loop-lane-preserved c = record {
  records = records_on c.loop-lane.out.items c.push.new.self.items c.into_record.result (of_lane c.in-Some.lane) (map of_lane c.loop-lane.lane-iterator.rest.items) (map of_lane c.next.new.self.rest.items) _
      c.in_ok-push.ensures.items (ap (map of_lane) c.in-Some.ensures.steps.0) c.into_record.ensures.who c.into_record.ensures.events c.loop-lane.invariant.records;
  rising = rising_on _ c.loop-lane.out.items c.push.new.self.items c.into_record.result c.in-Some.lane.lane.events
      c.in_ok-push.ensures.items c.into_record.ensures.events c.into_record.ensures.rising c.loop-lane.invariant.rising;
}
