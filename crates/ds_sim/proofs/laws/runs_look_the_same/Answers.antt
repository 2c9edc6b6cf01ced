use Rattle.ds_sim.proofs.TwoTexts.{looks_the_same}
use Rattle.ds_sim.proofs.laws.runs_look_the_same.Goals as goal

pub returns : goal.returns
returns c = looks_the_same
