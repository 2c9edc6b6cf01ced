use Rattle.std.proofs.Common.{refl}
use Rattle.ds_noninterference.proofs.an_example.Goals as goal
use Rattle.ds_noninterference.proofs.Example.{met}

pub returns-clause-met : goal.returns-clause-met
returns-clause-met c = met

pub returns-clause-marked : goal.returns-clause-marked
unfolding Rattle.ds_label.specs.Flow.flows Rattle.ds_label.specs.Flow.union
returns-clause-marked c = refl

pub returns-clause-owner : goal.returns-clause-owner
returns-clause-owner c = refl

pub returns-clause-printed : goal.returns-clause-printed
unfolding Rattle.ds_label.specs.Flow.flows Rattle.ds_label.specs.Flow.union
returns-clause-printed c = (refl, refl, refl)
