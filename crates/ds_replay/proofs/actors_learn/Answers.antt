use Rattle.ds_replay.proofs.actors_learn.Goals as goal
use Rattle.ds_replay.proofs.Learning as laws

pub returns-clause-processes : goal.returns-clause-processes
returns-clause-processes c = laws.processes_learn

pub returns-clause-workers : goal.returns-clause-workers
returns-clause-workers c = laws.workers_learn

pub returns-clause-connections : goal.returns-clause-connections
returns-clause-connections c = laws.connections_learn
