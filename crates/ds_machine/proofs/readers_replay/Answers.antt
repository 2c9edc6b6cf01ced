use Rattle.ds_machine.proofs.readers_replay.Goals as goal
use Rattle.ds_machine.proofs.Histories as laws

pub returns-clause-agree : goal.returns-clause-agree
returns-clause-agree c = laws.each_step_agrees

pub returns-clause-histories : goal.returns-clause-histories
returns-clause-histories c = laws.readers_replay
