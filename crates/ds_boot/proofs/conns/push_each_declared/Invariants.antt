use Rattle.std.proofs.Common.{◌≡◌, ◌≤◌, ◌+◌, ◌++◌, List, take, map, length}
use Rattle.ds_plan.specs.declared.host.HostSpec.{HostSpec}
use Rattle.ds_plan.specs.Keys.{host_keys}
use Rattle.ds_setup.specs.Plans.{declared_inlet}
use Rattle.ds_boot.proofs.conns.push_each_declared.Given as goal

abbrev pub invariant-loop-inlet : goal.invariant-loop-inlet
invariant-loop-inlet l =
    record {
      names : (hosts : List HostSpec) → l.keys ≡ host_keys hosts → l.names ≡ l.initial.names ++ map (declared_inlet hosts) (take l.inlet-index l.inlets);
      few : length l.names ≤ length l.initial.names + l.inlet-index;
    }
