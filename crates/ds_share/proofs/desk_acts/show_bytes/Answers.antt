use Rattle.std.proofs.Common.{arith}
use Rattle.ds_share.proofs.desk_acts.show_bytes.Goals as goal

pub returns : goal.returns
returns c = λ i. omega (arith, c.type_inv.bytes i)
