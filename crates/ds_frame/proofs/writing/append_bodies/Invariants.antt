use Rattle.std.proofs.Common.{◌≡◌, ◌++◌, take}
use Rattle.ds_frame.specs.Spelling.{spelling_of_bodies}
use Rattle.ds_frame.proofs.writing.append_bodies.Given as goal

abbrev pub invariant-loop-body : goal.invariant-loop-body
invariant-loop-body l = l.out ≡ l.initial.out ++ spelling_of_bodies (take l.body-index l.bodies)
