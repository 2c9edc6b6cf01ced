use Rattle.std.proofs.Common.{refl}
use Rattle.std.specs.Fmt.{digits}
use Rattle.ds_model.proofs.small_texts.Goals as goal

pub returns-clause-printing : goal.returns-clause-printing
unfolding digits
returns-clause-printing c = refl

pub returns-clause-trying : goal.returns-clause-trying
unfolding Rattle.ds_label.specs.Flow.flows Rattle.ds_label.specs.Flow.same_label Rattle.ds_label.specs.Flow.union digits
returns-clause-trying c = refl

pub returns-clause-posted : goal.returns-clause-posted
unfolding Rattle.ds_label.specs.Flow.flows Rattle.ds_label.specs.Flow.same_label Rattle.ds_label.specs.Flow.union digits
returns-clause-posted c = refl
