use Rattle.ds_worker.specs.Actors.{ConnLeft}
use Rattle.ds_worker.proofs.Running.{on_error}
use Rattle.ds_worker.proofs.Turning.{by_made}
use Rattle.ds_worker.proofs.conn_work.turn.Goals as goal

pub returns-clause-ok : goal.returns-clause-ok
returns-clause-ok g c =
    by_made c.args.node.now.boxes.items c.args.conn.now.link c.conn_turn.new.conn.link c.in_ok-made.made c.in_ok-made.ensures.ok c.in_ok-made.ensures.asks

pub returns-in_err-made-clause-err : goal.returns-in_err-made-clause-err
returns-in_err-made-clause-err g c =
    on_error c.from_residual.result (ConnLeft c.args.conn.now.link c.conn_turn.new.conn.link) (record { keeps = c.in_err-made.ensures.err; plain = c.in_err-made.ensures.plain })
