use Rattle.ds_worker.proofs.Tasking.{actor_joins, task_run}
use Rattle.ds_worker.proofs.task_laws.tasks_run.Goals as goal

pub returns-clause-phases : goal.returns-clause-phases
returns-clause-phases g c = λ faults_of nodes node a b worked none there. task_run faults_of nodes node a b worked none there

pub returns-clause-join : goal.returns-clause-join
returns-clause-join g c = λ node n m a b r one two. actor_joins node n m a b r one two
