use Rattle.ds_worker.proofs.Working.{may_at}
use Rattle.ds_worker.proofs.all_work.phase.Goals as goal

pub for_each_mut-requires-clause-accepts : goal.for_each_mut-requires-clause-accepts
for_each_mut-requires-clause-accepts g c κs within = λ i p here is. may_at c.args.nodes.now c.args.tasks.now i p.now c.requires.may here is
