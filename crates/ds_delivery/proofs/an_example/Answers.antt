use Rattle.std.proofs.Common.{refl}
use Rattle.ds_delivery.proofs.an_example.Goals as goal
use Rattle.ds_delivery.proofs.Example.{lane_met, link_met}

pub returns-clause-lane_met : goal.returns-clause-lane_met
returns-clause-lane_met c = lane_met

pub returns-clause-lane_put : goal.returns-clause-lane_put
unfolding Rattle.ds_label.specs.Flow.flows Rattle.ds_label.specs.Flow.same_label
returns-clause-lane_put c = refl

pub returns-clause-link_met : goal.returns-clause-link_met
returns-clause-link_met c = link_met

pub returns-clause-link_put : goal.returns-clause-link_put
unfolding Rattle.ds_label.specs.Flow.flows Rattle.ds_label.specs.Flow.same_label
returns-clause-link_put c = refl
