use Rattle.std.proofs.Common.{◌≡◌, ◌++◌, drop, map}
use Rattle.ds_doc.specs.Rules.{host_maker}
use Rattle.ds_doc.proofs.rules.facts.makers_of.Given as goal

abbrev pub invariant-loop-host : goal.invariant-loop-host
invariant-loop-host l =
    l.makers ++ map (host_maker) (drop l.host-index l.hosts)
    ≡ map (host_maker) l.hosts
