use Rattle.std.proofs.Common.{◌≡◌, ◌+◌, length, ap, arith}
use Rattle.ds_worker.specs.Actors.{ConnLeft, ConnTurned}
use Rattle.ds_worker.proofs.Stopping.{length_of_conn, stopped_as}
use Rattle.ds_worker.proofs.task_work.conn_at.Goals as goal

pub made_since-requires-clause-grew : goal.made_since-requires-clause-grew
made_since-requires-clause-grew g c =
    let grew : length c.work_conn.new.conn.link.events ≡ length c.args.conn.now.link.events + c.in-Err.ensures.err.0 = length_of_conn c.args.node.now.boxes.items c.in-Err.ensures.err.0 c.args.conn.now.link c.work_conn.new.conn.link c.in-Err.ensures.err.1 in
    omega (arith, ap length c.events-before.ensures.events, ap length c.events.ensures.events, grew)

pub made_since-requires-clause-few : goal.made_since-requires-clause-few
made_since-requires-clause-few g c =
    let grew : length c.work_conn.new.conn.link.events ≡ length c.args.conn.now.link.events + c.in-Err.ensures.err.0 = length_of_conn c.args.node.now.boxes.items c.in-Err.ensures.err.0 c.args.conn.now.link c.work_conn.new.conn.link c.in-Err.ensures.err.1 in
    omega (arith, ap length c.events-before.ensures.events, ap length c.events.ensures.events, grew, c.in-Err.ensures.err.1.few)

pub returns-in-Err-clause-made : goal.returns-in-Err-clause-made
returns-in-Err-clause-made g c =
    let grew : length c.work_conn.new.conn.link.events ≡ length c.args.conn.now.link.events + c.in-Err.ensures.err.0 = length_of_conn c.args.node.now.boxes.items c.in-Err.ensures.err.0 c.args.conn.now.link c.work_conn.new.conn.link c.in-Err.ensures.err.1 in
    let counted : c.made_since.result + length c.args.conn.now.link.events ≡ length c.work_conn.new.conn.link.events = omega (arith, c.made_since.ensures, ap length c.events-before.ensures.events, ap length c.events.ensures.events) in
    stopped_as (ConnTurned c.args.node.now.boxes.items) ConnLeft c.in-Err.ensures.err.0 c.made_since.result (length c.args.conn.now.link.events) (length c.work_conn.new.conn.link.events) c.args.conn.now.link c.work_conn.new.conn.link c.in-Err.ensures.err.1 grew counted
