use Rattle.std.proofs.Common.{◌≡◌, ◌++◌, drop}
use Rattle.ds_views.proofs.copying.copy_certs.Given as goal

abbrev pub invariant-loop-cert : goal.invariant-loop-cert
invariant-loop-cert l = l.copies ++ drop l.cert-index l.certs ≡ l.certs
