use Rattle.std.proofs.Common.{◌≡◌, take}
use Rattle.ds_desk.proofs.issued.copies_of.Given as goal

abbrev pub invariant-loop-cert : goal.invariant-loop-cert
invariant-loop-cert l = l.copies.items ≡ take l.cert-index l.certs
