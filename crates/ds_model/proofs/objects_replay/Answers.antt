use Rattle.ds_model.proofs.objects_replay.Goals as goal
use Rattle.ds_model.proofs.Meeting.{boxes_replay, lanes_replay, inlets_replay, desks_replay}

pub returns-clause-boxes : goal.returns-clause-boxes
returns-clause-boxes c = boxes_replay

pub returns-clause-lanes : goal.returns-clause-lanes
returns-clause-lanes c = lanes_replay

pub returns-clause-inlets : goal.returns-clause-inlets
returns-clause-inlets c = inlets_replay

pub returns-clause-desks : goal.returns-clause-desks
returns-clause-desks c = desks_replay
