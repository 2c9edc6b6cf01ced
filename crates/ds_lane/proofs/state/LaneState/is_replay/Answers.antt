use Rattle.std.proofs.Common.{subst}
use Rattle.ds_lane.specs.Lanes.{IsReplay, LaneWithCapacity}
use Rattle.ds_lane.proofs.state.LaneState.is_replay.Goals as goal

pub returns : goal.returns
returns c = subst (λ (b : LaneWithCapacity). IsReplay b.lane) c.self.view_is c.self.invariant.replay
