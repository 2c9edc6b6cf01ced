use Rattle.std.proofs.Common.{◌≡◌, drop}
use Rattle.ds_doc.specs.Draft.{host_from}
use Rattle.ds_doc.proofs.reading.basics.host_named.Given as goal

abbrev pub invariant-loop-known : goal.invariant-loop-known
invariant-loop-known l = host_from l.place (drop l.known-index l.names) l.name ≡ host_from 0 l.names l.name
