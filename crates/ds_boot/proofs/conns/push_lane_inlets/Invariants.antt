use Rattle.std.proofs.Common.{◌≡◌, ◌≤◌, ◌+◌, ◌++◌, take, length}
use Rattle.ds_setup.specs.Lists.{each, joined}
use Rattle.ds_setup.specs.Plans.{lane_inlet}
use Rattle.ds_boot.proofs.conns.push_lane_inlets.Given as goal

abbrev pub invariant-loop-place : goal.invariant-loop-place
invariant-loop-place l =
    record {
      names : l.names ≡ l.initial.names ++ joined (each (lane_inlet l.here l.host) (take l.place l.lanes));
      few : length l.names ≤ length l.initial.names + l.place;
    }
