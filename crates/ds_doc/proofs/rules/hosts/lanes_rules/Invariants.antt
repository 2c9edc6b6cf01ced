use Rattle.std.proofs.Common.{◌≡◌, ◌++◌, take, flat_map}
use Rattle.ds_doc.specs.Rules.{lane_rules}
use Rattle.ds_doc.proofs.rules.hosts.lanes_rules.Given as goal

abbrev pub invariant-loop-lane : goal.invariant-loop-lane
invariant-loop-lane l = l.faults.items ≡ l.initial.faults.items ++ flat_map (lane_rules l.facts) (take l.lane-index l.lanes)
