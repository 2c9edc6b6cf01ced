use Rattle.std.proofs.Common.{◌≡◌, ◌++◌, drop, map}
use Rattle.ds_doc.specs.Values.{mailbox}
use Rattle.ds_doc.proofs.values.hosts.boxes_of.Given as goal

abbrev pub invariant-loop-mailbox : goal.invariant-loop-mailbox
invariant-loop-mailbox l =
    l.list ++ map (mailbox l.keys) (drop l.mailbox-index l.boxes)
    ≡ map (mailbox l.keys) l.boxes
