use Rattle.std.proofs.Common.{◌≡◌, ◌<◌, length, arith, rules}
use Rattle.std.specs.Prelude.{min}
use Rattle.ds_model.specs.Lane.{Lifted, frame_limit, LaneEntry as Change}
use Rattle.ds_lane.specs.declared.batch.Waiting.{Waiting}
use Rattle.ds_lane.specs.LaneInside.{lane_of}
use Rattle.ds_lane.proofs.Grows.{grown, grown_last, lift_may}
use Rattle.ds_lane.proofs.state.LaneState.lift.Goals as goal

pub invariant_of-self : goal.invariant_of-self
invariant_of-self c =
    let b = lane_of c.self.inside in
    let count = c.min-count.result in
    let change : Change Waiting = Lifted count in
    let some : 0 < count = omega (arith, c.if-count-eq0.false) in
    let size : count ≡ min frame_limit (length b.waiting) = search rules in
    let later = rw (← c.self.view_is) at c.requires.later in
    let replay = grown b c.args.stamp c.args.who change c.self.invariant.replay later (lift_may count b.room b.waiting size some) tt in
    record {
      replay = rw (c.push_reserved.ensures.items, c.move_front.ensures.left) replay;
      last = rw c.push_reserved.ensures.items (grown_last b c.args.stamp c.args.who change);
      room = rw c.move_front.ensures.left c.self.invariant.room;
    }
