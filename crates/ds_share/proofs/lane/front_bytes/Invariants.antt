use Rattle.std.proofs.Common.{◌≡◌, take}
use Rattle.std.specs.List.{flat_map}
use Rattle.ds_share.specs.Spelling.{spelling_of_waiting}
use Rattle.ds_share.proofs.lane.front_bytes.Given as goal

abbrev pub invariant-loop-place : goal.invariant-loop-place
invariant-loop-place l = l.out ≡ flat_map spelling_of_waiting (take l.place l.state.lane.waiting)
