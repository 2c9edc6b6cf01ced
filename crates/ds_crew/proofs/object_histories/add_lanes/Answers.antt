use Rattle.std.proofs.Common.{◌+◌, drop}
use Rattle.ds_turn.specs.Records.{lane_name}
use Rattle.ds_crew.specs.Histories.{names_of_lanes}
use Rattle.ds_crew.proofs.Growing.{lanes_left, names_on}
use Rattle.ds_crew.proofs.object_histories.add_lanes.Goals as goal

pub loop-lane-preserved : goal.loop-lane-preserved
loop-lane-preserved g c =
    let left = names_of_lanes c.args.host c.loop-lane.number (drop c.loop-lane.lane-index c.args.lanes.now) in
    let rest = names_of_lanes c.args.host c.in-Some.next (drop (c.loop-lane.lane-index + 1) c.args.lanes.now) in
    record {
      objects = names_on c.loop-lane.out.items c.add_lane.new.out.items (lane_name c.args.host c.loop-lane.number) left rest _ c.in_ok-add_lane.ensures
          (lanes_left c.args.host c.loop-lane.number c.in-Some.next c.loop-lane.lane-index c.args.lanes.now c.lane-item.result c.loop-lane-test.true c.in-Some.ensures.1) c.loop-lane.invariant.objects;
      each = λ all. c.in_ok-add_lane.ensures.each (c.loop-lane.invariant.each all);
    }
