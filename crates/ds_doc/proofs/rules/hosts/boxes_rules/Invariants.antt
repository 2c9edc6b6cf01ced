use Rattle.std.proofs.Common.{◌≡◌, ◌++◌, take, flat_map}
use Rattle.ds_doc.specs.Rules.{box_rules}
use Rattle.ds_doc.proofs.rules.hosts.boxes_rules.Given as goal

abbrev pub invariant-loop-mailbox : goal.invariant-loop-mailbox
invariant-loop-mailbox l = l.faults.items ≡ l.initial.faults.items ++ flat_map (box_rules l.facts l.here l.rows l.fn.procs) (take l.mailbox-index l.boxes)
