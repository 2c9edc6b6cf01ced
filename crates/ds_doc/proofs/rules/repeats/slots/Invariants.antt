use Rattle.std.proofs.Common.{◌≡◌, ◌++◌, [], take, drop}
use Rattle.ds_doc.specs.Rules.{repeats, same_slot, slot_place}
use Rattle.ds_doc.proofs.rules.repeats.slots.Given as goal

abbrev pub invariant-loop-place : goal.invariant-loop-place
invariant-loop-place l =
    l.faults.items ++ repeats same_slot slot_place (take l.place l.boxes) (drop l.place l.boxes)
    ≡ l.initial.faults.items ++ repeats same_slot slot_place [] l.boxes
