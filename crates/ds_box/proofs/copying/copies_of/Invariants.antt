use Rattle.std.proofs.Common.{◌≡◌, take}
use Rattle.ds_box.proofs.copying.copies_of.Given as goal

abbrev pub invariant-loop-place : goal.invariant-loop-place
invariant-loop-place l = l.copied.items ≡ take l.place l.messages.items
