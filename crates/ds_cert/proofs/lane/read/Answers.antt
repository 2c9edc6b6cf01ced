use Rattle.std.proofs.Common.{arith}
use Rattle.ds_cert.specs.Fields.{alone}
use Rattle.ds_cert.specs.Reading.{lane_cert_at, read_lane_cert}
use Rattle.ds_cert.proofs.Places.{uses_lane_cert, near_alone, refuses_placed}
use Rattle.ds_cert.proofs.lane.read.Goals as goal

pub at_place-requires : goal.at_place-requires
at_place-requires c = near_alone _ c.args.input.now (lane_cert_at c.args.input.now) c.in-Err.fault (omega arith) (uses_lane_cert c.args.input.now) c.in-Err.ensures

pub returns-in-Err : goal.returns-in-Err
unfolding read_lane_cert
returns-in-Err c = rw c.at_place.ensures (refuses_placed c.args.input.now (alone (lane_cert_at c.args.input.now)) c.in-Err.fault c.in-Err.ensures)
