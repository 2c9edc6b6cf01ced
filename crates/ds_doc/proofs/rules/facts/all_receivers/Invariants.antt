use Rattle.std.proofs.Common.{◌≡◌, ◌++◌, drop, map}
use Rattle.ds_doc.specs.Rules.{host_receivers}
use Rattle.ds_doc.proofs.rules.facts.all_receivers.Given as goal

abbrev pub invariant-loop-host : goal.invariant-loop-host
invariant-loop-host l =
    l.receivers ++ map (host_receivers) (drop l.host-index l.hosts)
    ≡ map (host_receivers) l.hosts
