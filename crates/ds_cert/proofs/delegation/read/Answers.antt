use Rattle.std.proofs.Common.{arith}
use Rattle.ds_cert.specs.Fields.{alone}
use Rattle.ds_cert.specs.Reading.{delegation_at, read_delegation}
use Rattle.ds_cert.proofs.Places.{uses_delegation, near_alone, refuses_placed}
use Rattle.ds_cert.proofs.delegation.read.Goals as goal

pub at_place-requires : goal.at_place-requires
at_place-requires c = near_alone _ c.args.input.now (delegation_at c.args.input.now) c.in-Err.fault (omega arith) (uses_delegation c.args.input.now) c.in-Err.ensures

pub returns-in-Err : goal.returns-in-Err
unfolding read_delegation
returns-in-Err c = rw c.at_place.ensures (refuses_placed c.args.input.now (alone (delegation_at c.args.input.now)) c.in-Err.fault c.in-Err.ensures)
