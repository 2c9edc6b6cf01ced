use Rattle.std.proofs.Common.{refl}
use Rattle.ds_model.proofs.small_worlds.Goals as goal

pub returns-clause-prints : goal.returns-clause-prints
returns-clause-prints c = (refl, refl, refl)

pub returns-clause-refused : goal.returns-clause-refused
unfolding Rattle.ds_label.specs.Flow.flows
returns-clause-refused c = (refl, refl)

pub returns-clause-released : goal.returns-clause-released
unfolding Rattle.ds_label.specs.Flow.flows
returns-clause-released c = (refl, refl)

pub returns-clause-scheduled : goal.returns-clause-scheduled
returns-clause-scheduled c = (refl, refl)

pub returns-clause-full : goal.returns-clause-full
unfolding Rattle.ds_label.specs.Flow.flows
returns-clause-full c = (refl, refl)

pub returns-clause-stale : goal.returns-clause-stale
unfolding Rattle.ds_label.specs.Flow.flows Rattle.ds_label.specs.Flow.same_label
returns-clause-stale c = (refl, refl)

pub returns-clause-carried : goal.returns-clause-carried
unfolding Rattle.ds_label.specs.Flow.flows Rattle.ds_label.specs.Flow.same_label Rattle.ds_label.specs.Flow.union
returns-clause-carried c = (refl, refl, refl, refl)

pub returns-clause-scripted : goal.returns-clause-scripted
unfolding Rattle.ds_label.specs.Flow.flows Rattle.ds_label.specs.Flow.same_label Rattle.ds_label.specs.Flow.union
returns-clause-scripted c = (refl, refl, refl)
