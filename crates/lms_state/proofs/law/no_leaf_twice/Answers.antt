use Rattle.lms_state.proofs.Leaves.{spends}
use Rattle.lms_state.proofs.law.no_leaf_twice.Goals as goal

pub returns : goal.returns
returns c = λ key marks signer released trace. (spends trace).once
