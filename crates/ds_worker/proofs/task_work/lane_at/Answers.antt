use Rattle.std.proofs.Common.{◌≡◌, ◌+◌, length, ap, Err, arith}
use Rattle.ds_turn.specs.LaneTurns.{TookTurn}
use Rattle.ds_worker.specs.Runs.{IsSame}
use Rattle.ds_worker.proofs.Stopping.{length_of_lane, stopped_as}
use Rattle.ds_worker.proofs.Working.{kept_so, worker_of}
use Rattle.ds_worker.proofs.task_work.lane_at.Goals as goal

pub made_since-requires-clause-grew : goal.made_since-requires-clause-grew
made_since-requires-clause-grew g c =
    let grew : length c.work_lane.new.worker.lane.events ≡ length c.args.worker.now.lane.events + c.in-Err.ensures.err.0 = length_of_lane c.in-Err.ensures.err.0 c.args.worker.now.lane c.work_lane.new.worker.lane c.in-Err.ensures.err.1 in
    omega (arith, ap length c.events-before.ensures.events, ap length c.events.ensures.events, grew)

pub made_since-requires-clause-few : goal.made_since-requires-clause-few
made_since-requires-clause-few g c =
    let grew : length c.work_lane.new.worker.lane.events ≡ length c.args.worker.now.lane.events + c.in-Err.ensures.err.0 = length_of_lane c.in-Err.ensures.err.0 c.args.worker.now.lane c.work_lane.new.worker.lane c.in-Err.ensures.err.1 in
    omega (arith, ap length c.events-before.ensures.events, ap length c.events.ensures.events, grew, c.in-Err.ensures.err.1.few)

pub returns-in-Err-clause-made : goal.returns-in-Err-clause-made
returns-in-Err-clause-made g c =
    let grew : length c.work_lane.new.worker.lane.events ≡ length c.args.worker.now.lane.events + c.in-Err.ensures.err.0 = length_of_lane c.in-Err.ensures.err.0 c.args.worker.now.lane c.work_lane.new.worker.lane c.in-Err.ensures.err.1 in
    let counted : c.made_since.result + length c.args.worker.now.lane.events ≡ length c.work_lane.new.worker.lane.events = omega (arith, c.made_since.ensures, ap length c.events-before.ensures.events, ap length c.events.ensures.events) in
    stopped_as TookTurn IsSame c.in-Err.ensures.err.0 c.made_since.result (length c.args.worker.now.lane.events) (length c.work_lane.new.worker.lane.events) c.args.worker.now.lane c.work_lane.new.worker.lane c.in-Err.ensures.err.1 grew counted

pub returns-in-Err-clause-kept : goal.returns-in-Err-clause-kept
returns-in-Err-clause-kept g c =
    let grew : length c.work_lane.new.worker.lane.events ≡ length c.args.worker.now.lane.events + c.in-Err.ensures.err.0 = length_of_lane c.in-Err.ensures.err.0 c.args.worker.now.lane c.work_lane.new.worker.lane c.in-Err.ensures.err.1 in
    let counted : c.made_since.result + length c.args.worker.now.lane.events ≡ length c.work_lane.new.worker.lane.events = omega (arith, c.made_since.ensures, ap length c.events-before.ensures.events, ap length c.events.ensures.events) in
    kept_so g.K.Keeper.faults c.in-Err.fault c.in-Err.ensures.err.0 c.made_since.result (length c.args.worker.now.lane.events) (length c.work_lane.new.worker.lane.events) c.args.keeper.now c.work_lane.new.keeper
    c.in-Err.ensures.faults (λ is. c.in-Err.ensures.fault (ap Err is)) c.in-Err.ensures.err.2 grew counted

pub returns-in-Ok-clause-may : goal.returns-in-Ok-clause-may
returns-in-Ok-clause-may g c =
    worker_of c.args.node.now.lanes.items c.args.place c.requires.may.lane c.index-lane.result.now c.work_lane.new.worker.lane.worker.cert c.requires.may.there c.index-lane.ensures c.work_lane.ensures.lane

pub returns-in-Err-clause-may : goal.returns-in-Err-clause-may
returns-in-Err-clause-may g c =
    worker_of c.args.node.now.lanes.items c.args.place c.requires.may.lane c.index-lane.result.now c.work_lane.new.worker.lane.worker.cert c.requires.may.there c.index-lane.ensures c.work_lane.ensures.lane
