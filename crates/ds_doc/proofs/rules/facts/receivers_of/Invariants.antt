use Rattle.std.proofs.Common.{◌≡◌, ◌++◌, drop, map}
use Rattle.ds_doc.specs.Rules.{receiver}
use Rattle.ds_doc.proofs.rules.facts.receivers_of.Given as goal

abbrev pub invariant-loop-lane : goal.invariant-loop-lane
invariant-loop-lane l =
    l.receivers ++ map (receiver) (drop l.lane-index l.lanes)
    ≡ map (receiver) l.lanes
