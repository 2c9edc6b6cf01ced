use Rattle.ds_setup.proofs.Receivers.{lanes_are_received}
use Rattle.ds_setup.proofs.laws.lanes_are_received.Goals as goal

pub returns : goal.returns
returns c = lanes_are_received
