use Rattle.std.proofs.Common.{◌≡◌, take}
use Rattle.ds_msg.proofs.certs.CertBytes.copy.Given as goal

abbrev pub invariant-loop-item : goal.invariant-loop-item
invariant-loop-item l = l.copied ≡ take l.item-index l.self
