use Rattle.std.proofs.Common.{refl}
use Rattle.ds_noninterference.proofs.a_network.Goals as goal
use Rattle.ds_noninterference.proofs.Network.{met}

pub returns-clause-met : goal.returns-clause-met
returns-clause-met c = met

pub returns-clause-marked : goal.returns-clause-marked
unfolding Rattle.ds_label.specs.Flow.flows Rattle.ds_label.specs.Flow.same_label Rattle.ds_label.specs.Flow.union
returns-clause-marked c = (refl, refl)

pub returns-clause-seen : goal.returns-clause-seen
unfolding Rattle.ds_label.specs.Flow.flows Rattle.ds_label.specs.Flow.same_label Rattle.ds_label.specs.Flow.union
returns-clause-seen c = (refl, refl, refl, refl, refl)
