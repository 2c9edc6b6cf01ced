use Rattle.std.proofs.Common.{arith}
use Rattle.ds_cert.specs.Reading.{label_at, read_label}
use Rattle.ds_cert.proofs.Places.{uses_label, near_err, refuses_placed}
use Rattle.ds_cert.proofs.label.read.Goals as goal

pub at_place-requires : goal.at_place-requires
at_place-requires c = near_err _ c.args.input.now (label_at c.args.input.now) c.in-Err.fault (omega arith) (uses_label c.args.input.now) c.in-Err.ensures

pub returns-in-Err : goal.returns-in-Err
unfolding read_label
returns-in-Err c = rw c.at_place.ensures (refuses_placed c.args.input.now (label_at c.args.input.now) c.in-Err.fault c.in-Err.ensures)
