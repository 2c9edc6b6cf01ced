use Rattle.std.proofs.Common.{◌≡◌, ◌++◌, drop, flat_map}
use Rattle.ds_doc.specs.Rules.{signer_of}
use Rattle.ds_doc.proofs.rules.facts.signers_of.Given as goal

abbrev pub invariant-loop-cert : goal.invariant-loop-cert
invariant-loop-cert l =
    l.signers ++ flat_map (signer_of) (drop l.cert-index l.certs)
    ≡ flat_map (signer_of) l.certs
