use Rattle.std.proofs.Common.{◌≡◌, ◌++◌, drop, map}
use Rattle.ds_doc.specs.Rules.{lane_count}
use Rattle.ds_doc.proofs.rules.facts.lanes_of.Given as goal

abbrev pub invariant-loop-host : goal.invariant-loop-host
invariant-loop-host l =
    l.lanes ++ map (lane_count) (drop l.host-index l.hosts)
    ≡ map (lane_count) l.hosts
