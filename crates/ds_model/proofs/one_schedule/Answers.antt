use Rattle.ds_model.proofs.one_schedule.Goals as goal
use Rattle.ds_model.proofs.Moves.{some_schedule}
use Rattle.ds_model.proofs.Schedules.{one_schedule}

pub returns-clause-some : goal.returns-clause-some
returns-clause-some c = some_schedule

pub returns-clause-one : goal.returns-clause-one
returns-clause-one c = one_schedule
