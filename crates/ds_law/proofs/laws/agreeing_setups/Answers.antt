use Rattle.ds_law.proofs.Agreeing.{agreeing}
use Rattle.ds_law.proofs.laws.agreeing_setups.Goals as goal

pub returns : goal.returns
returns c = agreeing
