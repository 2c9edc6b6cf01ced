use Rattle.ds_setup.proofs.Setups.{setup_fits}
use Rattle.ds_setup.proofs.laws.setups_fit.Goals as goal

pub returns : goal.returns
returns c = setup_fits
