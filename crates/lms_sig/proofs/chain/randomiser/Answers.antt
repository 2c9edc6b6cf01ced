use Rattle.lms_sig.specs.OneTime.{C}
use Rattle.lms_sig.proofs.chain.randomiser.Goals as goal

pub returns : goal.returns
unfolding C
returns c = rw c.prefix.ensures at c.step_hash.ensures
