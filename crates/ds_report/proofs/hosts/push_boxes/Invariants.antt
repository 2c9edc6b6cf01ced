use Rattle.std.proofs.Common.{◌≡◌, ◌++◌, take, map}
use Rattle.ds_exporter.specs.HostStates.{box_of}
use Rattle.ds_report.specs.Printings.{printing_of, planned}
use Rattle.ds_report.specs.Hosts.{boxes_text}
use Rattle.ds_report.proofs.hosts.push_boxes.Given as goal

abbrev pub invariant-loop-mailbox : goal.invariant-loop-mailbox
invariant-loop-mailbox l = l.out.items ≡ l.initial.out.items ++ boxes_text (printing_of l.doc) (planned l.doc) l.host l.table.here l.table.rows (map box_of (take l.mailbox-index l.boxes))
