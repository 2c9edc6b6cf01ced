use Rattle.std.proofs.Common.{◌≡◌, ◌≤◌, ◌+◌, ◌-◌, ◌++◌, length, map, take, vec_len, vec_capacity}
use Rattle.ds_lane.specs.Workers.{dropped_entry}
use Rattle.ds_lane.proofs.lane_end.enter_dropped.Given as goal

abbrev pub invariant-loop-waiting : goal.invariant-loop-waiting
invariant-loop-waiting l =
    record {
      entered : l.entries.items ≡ l.initial.entries.items ++ map (dropped_entry l.stamp l.rule) (take l.waiting-index l.hand);
      room : vec_len l.entries + (length l.hand - l.waiting-index) ≤ vec_capacity l.entries;
    }
