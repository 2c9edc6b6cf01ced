use Rattle.ds_replay.proofs.all_else_touches.Goals as goal
use Rattle.ds_replay.proofs.Still as laws

pub returns-clause-still : goal.returns-clause-still
returns-clause-still c = laws.still_touches_nothing

pub returns-clause-others : goal.returns-clause-others
returns-clause-others c = laws.else_is_still
