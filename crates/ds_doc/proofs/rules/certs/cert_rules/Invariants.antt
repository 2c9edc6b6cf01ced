use Rattle.std.proofs.Common.{◌≡◌, ◌++◌, take, flat_map}
use Rattle.ds_doc.specs.Rules.{cert_rules}
use Rattle.ds_doc.proofs.rules.certs.cert_rules.Given as goal

abbrev pub invariant-loop-cert : goal.invariant-loop-cert
invariant-loop-cert l = l.faults.items ≡ l.initial.faults.items ++ flat_map (cert_rules l.facts) (take l.cert-index l.certs)
