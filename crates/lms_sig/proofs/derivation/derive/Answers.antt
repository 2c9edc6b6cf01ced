use Rattle.lms_sig.specs.Keys.{derived_id, derived_seed}
use Rattle.lms_sig.proofs.derivation.derive.Goals as goal

pub returns-clause-seed : goal.returns-clause-seed
unfolding derived_seed
returns-clause-seed c = c.labelled-seed.ensures

pub returns-clause-id : goal.returns-clause-id
unfolding derived_id
returns-clause-id c = rw c.labelled-name.ensures at c.copy_from_slice.ensures.after
