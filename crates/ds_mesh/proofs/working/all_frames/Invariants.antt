use Rattle.ds_mesh.specs.Workings.{Works}
use Rattle.ds_mesh.proofs.working.all_frames.Given as goal

abbrev pub invariant-loop-place : goal.invariant-loop-place
invariant-loop-place l = Works l.doc l.initial.task l.task
