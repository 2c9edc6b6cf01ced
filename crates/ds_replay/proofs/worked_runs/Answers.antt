use Rattle.std.proofs.Common.{refl}
use Rattle.ds_replay.proofs.worked_runs.Goals as goal

pub returns-clause-full : goal.returns-clause-full
unfolding Rattle.ds_label.specs.Flow.flows
returns-clause-full c = (refl, refl)

pub returns-clause-counts : goal.returns-clause-counts
unfolding Rattle.ds_label.specs.Flow.flows Rattle.ds_label.specs.Flow.same_label
returns-clause-counts c = (refl, refl)

pub returns-clause-letter : goal.returns-clause-letter
unfolding Rattle.ds_label.specs.Flow.flows Rattle.ds_label.specs.Flow.same_label Rattle.ds_label.specs.Flow.union
returns-clause-letter c = (refl, refl)

pub returns-clause-acts : goal.returns-clause-acts
unfolding Rattle.ds_label.specs.Flow.flows Rattle.ds_label.specs.Flow.same_label Rattle.ds_label.specs.Flow.union
returns-clause-acts c = (refl, refl)
