use Rattle.ds_sim.proofs.Begun.{begins_as_setup}
use Rattle.ds_sim.proofs.laws.runs_begin_so.Goals as goal

pub returns : goal.returns
returns c = begins_as_setup
