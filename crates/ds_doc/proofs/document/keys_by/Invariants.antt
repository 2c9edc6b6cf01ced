use Rattle.std.proofs.Common.{◌≡◌, ◌++◌, drop, map}
use Rattle.ds_doc.specs.Values.{host_key}
use Rattle.ds_doc.proofs.document.keys_by.Given as goal

abbrev pub invariant-loop-at : goal.invariant-loop-at
invariant-loop-at l = l.keys ++ map host_key (drop l.at l.hosts) ≡ map host_key l.hosts
