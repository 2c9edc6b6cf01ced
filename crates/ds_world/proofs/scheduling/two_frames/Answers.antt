use Rattle.ds_world.proofs.Hands.{goes_more}
use Rattle.ds_world.proofs.scheduling.two_frames.Goals as goal

pub returns-clause-goes : goal.returns-clause-goes
returns-clause-goes c = goes_more c.args.world.now c.attempt.new.world c.attempt-2.new.world c.args.making.now c.attempt.new.making c.attempt-2.new.making c.attempt.ensures.doc c.in_ok-attempt.ensures.goes c.in_ok-attempt-2.ensures.goes
