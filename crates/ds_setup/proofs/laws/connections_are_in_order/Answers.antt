use Rattle.ds_setup.proofs.Numbers.{in_order}
use Rattle.ds_setup.proofs.laws.connections_are_in_order.Goals as goal

pub returns : goal.returns
returns c = in_order
