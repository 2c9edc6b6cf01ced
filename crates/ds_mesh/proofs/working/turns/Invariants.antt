use Rattle.ds_mesh.specs.Workings.{Works}
use Rattle.ds_mesh.proofs.working.turns.Given as goal

abbrev pub invariant-loop : goal.invariant-loop
invariant-loop g l = Works l.doc l.initial.task l.task
