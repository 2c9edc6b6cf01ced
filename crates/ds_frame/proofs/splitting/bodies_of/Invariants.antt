use Rattle.std.proofs.Common.{◌≡◌, [], length}
use Rattle.ds_frame.specs.Bodies.{bodies_at}
use Rattle.ds_frame.proofs.BodyLaws.{IsSoFar}
use Rattle.ds_frame.proofs.splitting.bodies_of.Given as goal

abbrev pub invariant-loop : goal.invariant-loop
invariant-loop l = (length l.bodies ≡ l.counter) × IsSoFar l.bodies l.messages l.counter l.rest (bodies_at l.messages [] l.bytes)
