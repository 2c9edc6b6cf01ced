use Rattle.std.proofs.Common.{sym, ◌∙◌}
use Rattle.ds_actor.specs.Sites.{is_lane_for}
use Rattle.ds_turn.specs.Nodes.{seen_of}
use Rattle.ds_turn.proofs.SeatPlaces.{first_passes, there_now}
use Rattle.ds_turn.proofs.ProcSteps.{queues}
use Rattle.ds_turn.proofs.proc_queueing.queue_turn.Goals as goal

pub admit_turn-requires-clause-goes : goal.admit_turn-requires-clause-goes
admit_turn-requires-clause-goes g c =
    first_passes (is_lane_for c.in-Some.message.to c.in-Some.message.label) c.args.node.now.lanes.items c.in-Some-lane_to.place c.index.result.now
    (sym c.lane_to.ensures.place ∙ c.in-Some-lane_to.is) c.index.ensures

pub returns-clause-ok : goal.returns-clause-ok
returns-clause-ok g c =
    queues (seen_of c.args.node.now) c.args.process.now.proc c.reserve.new.self.proc c.lay_down.new.self.proc c.admit_turn.new.process.proc
    c.in-Some.message c.in-Some-lane_to.place c.index.result.now c.reserve.ensures.same c.lay_down.ensures.proc (sym c.lay_down.ensures.message ∙ c.in-Some.is)
    (there_now c.args.node.now.lanes.items c.in-Some-lane_to.place c.index.result.now c.in-Some-lane_to.ensures.within c.index.ensures)
    (sym c.lane_to.ensures.place ∙ c.in-Some-lane_to.is) c.in_ok-admit_turn.ensures.ok
