use Rattle.std.proofs.Common.{◌≡◌, ◌++◌, take}
use Rattle.std.specs.List.{flat_map}
use Rattle.ds_msg.specs.Spelling.{spelling_of_cert_bytes}
use Rattle.ds_share.proofs.spelling.append_each_cert.Given as goal

abbrev pub invariant-loop-cert : goal.invariant-loop-cert
invariant-loop-cert l = l.out ≡ l.initial.out ++ flat_map spelling_of_cert_bytes (take l.cert-index l.certs)
