use Rattle.ds_phases.proofs.Running.{arrives, task_runs}
use Rattle.ds_phases.proofs.arrival_laws.arrivals_run.Goals as goal

pub returns-clause-arrives : goal.returns-clause-arrives
returns-clause-arrives g c = λ piece least a b some e. arrives piece least a b some e

pub returns-clause-runs : goal.returns-clause-runs
returns-clause-runs g c = λ node source a b given. task_runs node source a b given
