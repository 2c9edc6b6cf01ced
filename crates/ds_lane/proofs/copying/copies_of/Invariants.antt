use Rattle.std.proofs.Common.{◌≡◌, take}
use Rattle.ds_lane.proofs.copying.copies_of.Given as goal

abbrev pub invariant-loop-place : goal.invariant-loop-place
invariant-loop-place l = l.copied.items ≡ take l.place l.waiting.items
