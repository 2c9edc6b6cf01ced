use Rattle.ds_setup.proofs.Runs.{some_run, one_run}
use Rattle.ds_setup.proofs.laws.runs_are_one.Goals as goal

pub returns-clause-some : goal.returns-clause-some
returns-clause-some c = some_run

pub returns-clause-one : goal.returns-clause-one
returns-clause-one c = one_run
