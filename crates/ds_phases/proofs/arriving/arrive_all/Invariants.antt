use Rattle.ds_phases.proofs.Places.{ArrivedTo}
use Rattle.ds_phases.proofs.arriving.arrive_all.Given as goal

abbrev pub invariant-loop-place : goal.invariant-loop-place
invariant-loop-place g l = ArrivedTo l.feeds l.place l.made l.initial.tasks l.tasks
