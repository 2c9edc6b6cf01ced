use Rattle.std.proofs.Common.{◌≡◌, take, map}
use Rattle.ds_exporter.specs.HostStates.{inlet_of}
use Rattle.ds_boot.specs.Parts.{inlet_begun}
use Rattle.ds_boot.proofs.conns.begin_inlets.Given as goal

abbrev pub invariant-loop-place : goal.invariant-loop-place
invariant-loop-place l =
    map inlet_of l.inlets.items ≡ map inlet_begun (take l.place l.names)
