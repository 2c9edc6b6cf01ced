use Rattle.ds_worker.proofs.Tasking.{actor_grew, task_grew}
use Rattle.ds_worker.proofs.task_laws.tasks_grow.Goals as goal

pub returns-clause-runs : goal.returns-clause-runs
returns-clause-runs g c = λ node n a b run. actor_grew node n a b run

pub returns-clause-phases : goal.returns-clause-phases
returns-clause-phases g c = λ faults_of nodes a b worked. task_grew faults_of nodes a b worked
