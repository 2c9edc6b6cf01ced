use Rattle.ds_actor.proofs.Publishes.{two_named}
use Rattle.ds_actor.proofs.publishing.publish_refusal.Goals as goal

pub returns-in-Err : goal.returns-in-Err
returns-in-Err c = λ here rows table agreed named hand. c.in-Err.ensures.names here rows table (two_named here rows c.args.process.now.process named)

pub returns : goal.returns
returns c = λ here rows table agreed named hand. c.in_default.ensures.names here rows table (two_named here rows c.args.process.now.process named)
