use Rattle.ds_turn.specs.ConnTurns.{LeadsTo}
use Rattle.ds_worker.specs.Actors.{ConnTurned}
use Rattle.ds_worker.specs.Runs.{Ran}
use Rattle.ds_worker.proofs.conn_work.work_conn.Given as goal

abbrev pub invariant-loop-made : goal.invariant-loop-made
invariant-loop-made g l = record {
  ran : Ran (ConnTurned l.node.boxes.items) l.made l.initial.conn.link l.conn.link;
  leads : LeadsTo l.node l.conn.link.conn;
}
