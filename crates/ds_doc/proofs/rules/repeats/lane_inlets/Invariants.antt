use Rattle.std.proofs.Common.{◌≡◌, ◌++◌, take, flat_map}
use Rattle.ds_doc.specs.Rules.{inlet_of_lane}
use Rattle.ds_doc.proofs.rules.repeats.lane_inlets.Given as goal

abbrev pub invariant-loop-inlet : goal.invariant-loop-inlet
invariant-loop-inlet l = l.faults.items ≡ l.initial.faults.items ++ flat_map (inlet_of_lane l.facts l.here) (take l.inlet-index l.inlets)
