use Rattle.std.proofs.Common.{arith}
use Rattle.ds_lane.proofs.Sizes.{bodies_fit}
use Rattle.ds_lane.proofs.framing.bodies_of.Goals as goal

pub returns-clause-range : goal.returns-clause-range
returns-clause-range c =
    let l = c.loop-waiting in
    bodies_fit l.bodies (omega (arith, l.invariant.count, c.loop-waiting-test.false, c.requires.first)) (omega (arith, l.invariant.count, l.auto.waiting-index-end, c.requires.last)) l.invariant.small
