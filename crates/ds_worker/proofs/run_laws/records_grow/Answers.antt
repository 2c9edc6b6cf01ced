use Rattle.ds_turn.specs.ProcTurns.{TookProcTurn}
use Rattle.ds_turn.specs.LaneTurns.{TookTurn}
use Rattle.ds_worker.specs.Actors.{ConnMoved}
use Rattle.ds_worker.specs.Logs.{log_of_conn, log_of_lane, log_of_proc}
use Rattle.ds_worker.proofs.Growing.{conn_grows, lane_grows, proc_grows}
use Rattle.ds_worker.proofs.Logging.{grew_run}
use Rattle.ds_worker.proofs.run_laws.records_grow.Goals as goal

pub returns-clause-procs : goal.returns-clause-procs
returns-clause-procs c = λ site n a b ran. grew_run (TookProcTurn site) log_of_proc (proc_grows site) n a b ran

pub returns-clause-lanes : goal.returns-clause-lanes
returns-clause-lanes c = λ n a b ran. grew_run TookTurn log_of_lane lane_grows n a b ran

pub returns-clause-conns : goal.returns-clause-conns
returns-clause-conns c = λ boxes n a b ran. grew_run (ConnMoved boxes) log_of_conn (conn_grows boxes) n a b ran
