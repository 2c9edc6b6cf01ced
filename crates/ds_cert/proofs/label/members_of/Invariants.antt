use Rattle.std.proofs.Common.{◌≡◌, None, length}
use Rattle.ds_cert.specs.Reading.{members_at}
use Rattle.ds_cert.proofs.Loops.{IsSoFar}
use Rattle.ds_cert.proofs.label.members_of.Given as goal

abbrev pub invariant-loop : goal.invariant-loop
invariant-loop l = (length l.label ≡ l.counter) × IsSoFar l.label l.count l.counter l.rest (members_at l.count None l.bytes)
