use Rattle.std.proofs.Common.{◌≡◌, take}
use Rattle.ds_script.proofs.bytes_list.bytes_copies.Given as goal

abbrev pub invariant-loop-item : goal.invariant-loop-item
invariant-loop-item l = l.copies.items ≡ take l.item-index l.items
