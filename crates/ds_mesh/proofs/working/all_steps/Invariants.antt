use Rattle.ds_mesh.specs.Workings.{Works}
use Rattle.ds_mesh.proofs.working.all_steps.Given as goal

abbrev pub invariant-loop-index : goal.invariant-loop-index
invariant-loop-index g l = Works l.doc l.initial.task l.task
