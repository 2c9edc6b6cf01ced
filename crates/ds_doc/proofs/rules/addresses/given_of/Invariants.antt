use Rattle.std.proofs.Common.{◌≡◌, ◌++◌, drop, flat_map}
use Rattle.ds_doc.specs.Rules.{given_in}
use Rattle.ds_doc.proofs.rules.addresses.given_of.Given as goal

abbrev pub invariant-loop-cert : goal.invariant-loop-cert
invariant-loop-cert l =
    l.given ++ flat_map (given_in) (drop l.cert-index l.certs)
    ≡ flat_map (given_in) l.certs
