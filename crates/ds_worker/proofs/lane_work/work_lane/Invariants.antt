use Rattle.std.proofs.Common.{◌≡◌, ◌≤◌}
use Rattle.ds_share.specs.SharedLanes.{IsSameLane}
use Rattle.ds_turn.specs.LaneTurns.{TookTurn}
use Rattle.ds_worker.specs.Runs.{Ran}
use Rattle.ds_worker.proofs.lane_work.work_lane.Given as goal

abbrev pub invariant-loop-made : goal.invariant-loop-made
invariant-loop-made g l = record {
  ran : Ran TookTurn l.made l.initial.worker.lane l.worker.lane;
  lane : IsSameLane l.lane l.worker.lane.worker.cert;
  faults : g.K.Keeper.faults l.initial.keeper ≤ g.K.Keeper.faults l.keeper;
  spared : l.made ≡ 0 → l.keeper ≡ l.initial.keeper;
}
