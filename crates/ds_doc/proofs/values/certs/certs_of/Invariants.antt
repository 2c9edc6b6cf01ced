use Rattle.std.proofs.Common.{◌≡◌, ◌++◌, drop, map}
use Rattle.ds_doc.specs.Values.{certificate}
use Rattle.ds_doc.proofs.values.certs.certs_of.Given as goal

abbrev pub invariant-loop-cert : goal.invariant-loop-cert
invariant-loop-cert l =
    l.list ++ map (certificate l.keys) (drop l.cert-index l.certs)
    ≡ map (certificate l.keys) l.certs
