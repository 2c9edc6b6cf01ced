use Rattle.std.proofs.Common.{arith}
use Rattle.ds_setup.specs.Plans.{lane_inlet}
use Rattle.ds_boot.proofs.Lists.{joined_step}
use Rattle.ds_boot.proofs.conns.push_lane_inlets.Goals as goal

pub loop-place-preserved : goal.loop-place-preserved
loop-place-preserved c = record {
  names = joined_step (lane_inlet c.args.here c.args.host.now) c.args.lanes.now c.loop-place.place _ c.index-lanes-place.result c.args.names.now c.loop-place.names c.push_lane_inlet.new.names c.loop-place-test.true c.index-lanes-place.is (c.in_ok-push_lane_inlet.ensures.ok c.args.host.now c.requires.key) c.loop-place.invariant.names;
  few = omega (arith, c.in_ok-push_lane_inlet.ensures.more, c.loop-place.invariant.few);
}
