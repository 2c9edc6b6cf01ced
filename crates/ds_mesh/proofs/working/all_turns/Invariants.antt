use Rattle.ds_mesh.specs.Workings.{Works}
use Rattle.ds_mesh.proofs.working.all_turns.Given as goal

abbrev pub invariant-loop-conn : goal.invariant-loop-conn
invariant-loop-conn g l = Works l.doc l.initial.task l.task
