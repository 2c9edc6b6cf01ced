use Rattle.std.proofs.Common.{arith}
use Rattle.ds_cert.specs.Fields.{alone}
use Rattle.ds_cert.proofs.Places.{near_alone, refuses_placed}
use Rattle.ds_msg.specs.Reading.{message_at, read_message}
use Rattle.ds_msg.proofs.Places.{uses_message}
use Rattle.ds_msg.proofs.message.read.Goals as goal

pub at_place-requires : goal.at_place-requires
at_place-requires c = near_alone _ c.args.input.now (message_at c.args.input.now) c.in-Err.fault (omega arith) (uses_message c.args.input.now) c.in-Err.ensures

pub returns-in-Err : goal.returns-in-Err
unfolding read_message
returns-in-Err c = rw c.at_place.ensures (refuses_placed c.args.input.now (alone (message_at c.args.input.now)) c.in-Err.fault c.in-Err.ensures)
