use Rattle.ds_inlet.proofs.Accepting.{stays, accepts}
use Rattle.ds_inlet.proofs.laws.connections_accept_as_the_plain_world.Goals as goal

pub returns-clause-stays : goal.returns-clause-stays
returns-clause-stays c = stays

pub returns-clause-accepts : goal.returns-clause-accepts
returns-clause-accepts c = accepts
