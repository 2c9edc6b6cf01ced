use Rattle.std.proofs.Common.{refl}
use Rattle.ds_model.proofs.small_refusals.Goals as goal

pub returns-clause-first : goal.returns-clause-first
unfolding Rattle.ds_label.specs.Flow.flows Rattle.ds_label.specs.Flow.same_label Rattle.ds_label.specs.Flow.union
returns-clause-first c = refl

pub returns-clause-kept_in : goal.returns-clause-kept_in
unfolding Rattle.ds_label.specs.Flow.flows Rattle.ds_label.specs.Flow.same_label Rattle.ds_label.specs.Flow.union
returns-clause-kept_in c = (refl, refl)

pub returns-clause-dropped : goal.returns-clause-dropped
unfolding Rattle.ds_label.specs.Flow.flows Rattle.ds_label.specs.Flow.same_label Rattle.ds_label.specs.Flow.union
returns-clause-dropped c = refl

pub returns-clause-busy : goal.returns-clause-busy
unfolding Rattle.ds_label.specs.Flow.flows Rattle.ds_label.specs.Flow.same_label Rattle.ds_label.specs.Flow.union
returns-clause-busy c = (refl, refl)

pub returns-clause-lapsed : goal.returns-clause-lapsed
unfolding Rattle.ds_label.specs.Flow.flows Rattle.ds_label.specs.Flow.same_label Rattle.ds_label.specs.Flow.union
returns-clause-lapsed c = (refl, refl)

pub returns-clause-alone : goal.returns-clause-alone
unfolding Rattle.ds_label.specs.Flow.flows Rattle.ds_label.specs.Flow.same_label Rattle.ds_label.specs.Flow.union
returns-clause-alone c = (refl, refl)
