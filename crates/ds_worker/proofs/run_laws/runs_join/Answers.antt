use Rattle.ds_turn.specs.ProcTurns.{TookProcTurn}
use Rattle.ds_turn.specs.LaneTurns.{TookTurn}
use Rattle.ds_worker.specs.Actors.{ConnMoved}
use Rattle.ds_worker.proofs.Running.{ran_join}
use Rattle.ds_worker.proofs.run_laws.runs_join.Goals as goal

pub returns-clause-procs : goal.returns-clause-procs
returns-clause-procs c = λ site n m a b r first second. ran_join (TookProcTurn site) n m a b r first second

pub returns-clause-lanes : goal.returns-clause-lanes
returns-clause-lanes c = λ n m a b r first second. ran_join TookTurn n m a b r first second

pub returns-clause-conns : goal.returns-clause-conns
returns-clause-conns c = λ boxes n m a b r first second. ran_join (ConnMoved boxes) n m a b r first second
