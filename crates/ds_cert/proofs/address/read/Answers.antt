use Rattle.std.proofs.Common.{arith}
use Rattle.ds_cert.specs.Fields.{alone}
use Rattle.ds_cert.specs.Reading.{address_at, read_address}
use Rattle.ds_cert.proofs.Places.{uses_address, near_alone, refuses_placed}
use Rattle.ds_cert.proofs.address.read.Goals as goal

pub at_place-requires : goal.at_place-requires
at_place-requires c = near_alone _ c.args.input.now (address_at c.args.input.now) c.in-Err.fault (omega arith) (uses_address c.args.input.now) c.in-Err.ensures

pub returns-in-Err : goal.returns-in-Err
unfolding read_address
returns-in-Err c = rw c.at_place.ensures (refuses_placed c.args.input.now (alone (address_at c.args.input.now)) c.in-Err.fault c.in-Err.ensures)
