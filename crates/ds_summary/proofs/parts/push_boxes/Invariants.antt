use Rattle.std.proofs.Common.{◌≡◌, ◌++◌, take, flat_map, map}
use Rattle.ds_exporter.specs.HostStates.{box_of}
use Rattle.ds_summary.specs.Parts.{box_part}
use Rattle.ds_summary.proofs.parts.push_boxes.Given as goal

abbrev pub invariant-loop-mailbox : goal.invariant-loop-mailbox
invariant-loop-mailbox l = l.out.items ≡ l.initial.out.items ++ flat_map box_part (map box_of (take l.mailbox-index l.boxes))
