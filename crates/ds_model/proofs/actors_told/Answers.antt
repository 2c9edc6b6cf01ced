use Rattle.ds_model.proofs.actors_told.Goals as goal
use Rattle.ds_model.proofs.Answers.{processes_told, workers_told, connections_told}

pub returns-clause-processes : goal.returns-clause-processes
returns-clause-processes c = processes_told

pub returns-clause-workers : goal.returns-clause-workers
returns-clause-workers c = workers_told

pub returns-clause-connections : goal.returns-clause-connections
returns-clause-connections c = connections_told
