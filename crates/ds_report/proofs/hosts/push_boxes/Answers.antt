use Rattle.ds_exporter.specs.HostStates.{box_of}
use Rattle.ds_exporter.specs.Conditions.{IsBoxNamed}
use Rattle.ds_report.proofs.Spelt.{item_has}
use Rattle.ds_report.proofs.hosts.push_boxes.Goals as goal

pub push_box-requires-clause-named : goal.push_box-requires-clause-named
push_box-requires-clause-named c =
    item_has (IsBoxNamed c.args.table.now.here c.args.table.now.rows) box_of c.args.boxes.now c.loop-mailbox.mailbox-index c.mailbox-item.result c.requires.named c.mailbox-item.is c.loop-mailbox-test.true
