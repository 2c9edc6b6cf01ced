use Rattle.std.proofs.Common.{◌≡◌, [], length}
use Rattle.ds_msg.specs.Reading.{more_certs_at}
use Rattle.ds_msg.proofs.Loops.{IsSoFar}
use Rattle.ds_msg.proofs.fields.more_certs_of.Given as goal

abbrev pub invariant-loop : goal.invariant-loop
invariant-loop l = (length l.certs ≡ l.counter) × IsSoFar l.certs l.count l.counter l.rest (more_certs_at l.count [] l.bytes)
