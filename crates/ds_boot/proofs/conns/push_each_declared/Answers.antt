use Rattle.std.proofs.Common.{arith, refl}
use Rattle.ds_setup.specs.Plans.{declared_inlet}
use Rattle.ds_boot.proofs.Lists.{map_grows}
use Rattle.ds_boot.proofs.conns.push_each_declared.Goals as goal

pub loop-inlet-preserved : goal.loop-inlet-preserved
loop-inlet-preserved c = record {
  names = λ hosts e. map_grows (declared_inlet hosts) c.args.inlets.now c.loop-inlet.inlet-index _ c.args.names.now c.loop-inlet.names c.push_declared.new.names _ c.loop-inlet-test.true (c.in_ok-push_declared.ensures.ok hosts e) refl (c.loop-inlet.invariant.names hosts e);
  few = omega (arith, c.in_ok-push_declared.ensures.more, c.loop-inlet.invariant.few);
}
