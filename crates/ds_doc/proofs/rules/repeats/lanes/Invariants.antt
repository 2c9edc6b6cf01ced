use Rattle.std.proofs.Common.{◌≡◌, ◌++◌, [], take, drop}
use Rattle.ds_doc.specs.Rules.{repeats, same_lane, lane_place}
use Rattle.ds_doc.proofs.rules.repeats.lanes.Given as goal

abbrev pub invariant-loop-place : goal.invariant-loop-place
invariant-loop-place l =
    l.faults.items ++ repeats same_lane lane_place (take l.place l.lanes) (drop l.place l.lanes)
    ≡ l.initial.faults.items ++ repeats same_lane lane_place [] l.lanes
