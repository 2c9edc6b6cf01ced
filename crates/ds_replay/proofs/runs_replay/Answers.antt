use Rattle.ds_replay.proofs.runs_replay.Goals as goal
use Rattle.ds_replay.proofs.Replays as laws
use Rattle.ds_replay.proofs.Slots.{slots_name}

pub returns-clause-one : goal.returns-clause-one
returns-clause-one c = laws.one_object

pub returns-clause-run : goal.returns-clause-run
returns-clause-run c = laws.runs_replay

pub returns-clause-slots : goal.returns-clause-slots
returns-clause-slots c = slots_name
