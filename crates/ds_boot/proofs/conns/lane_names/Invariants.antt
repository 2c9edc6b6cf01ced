use Rattle.std.proofs.Common.{◌≡◌, ◌≤◌, ◌*◌, take, length}
use Rattle.std.specs.List.{flat_map}
use Rattle.ds_setup.specs.Plans.{inlets_from}
use Rattle.ds_boot.proofs.conns.lane_names.Given as goal

abbrev pub invariant-loop-place : goal.invariant-loop-place
invariant-loop-place l =
    record {
      names : l.names ≡ flat_map (inlets_from l.here) (take l.place l.hosts);
      few : length l.names ≤ 32 * l.place;
    }
