use Rattle.std.proofs.Common.{◌≡◌, ◌++◌, drop}
use Rattle.ds_doc.proofs.rules.addresses.copies.Given as goal

abbrev pub invariant-loop-bytes : goal.invariant-loop-bytes
invariant-loop-bytes l = l.copies ++ drop l.bytes-index l.list ≡ l.list
