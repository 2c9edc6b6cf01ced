use Rattle.std.proofs.Common.{◌≡◌, ◌++◌, drop, map}
use Rattle.ds_doc.specs.Reading.{identity}
use Rattle.ds_doc.proofs.document.trees_in_turn.Given as goal

abbrev pub invariant-loop-host : goal.invariant-loop-host
invariant-loop-host l = l.trees.items ++ map identity (drop l.host-index l.hosts) ≡ map identity l.hosts
