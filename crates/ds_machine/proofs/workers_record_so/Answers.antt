use Rattle.ds_machine.proofs.workers_record_so.Goals as goal
use Rattle.ds_machine.proofs.Turning as laws

pub returns-clause-lifts : goal.returns-clause-lifts
returns-clause-lifts c = laws.lifts_are_recorded

pub returns-clause-checks : goal.returns-clause-checks
returns-clause-checks c = laws.checks_are_recorded

pub returns-clause-one : goal.returns-clause-one
returns-clause-one c = laws.judged_as_one
