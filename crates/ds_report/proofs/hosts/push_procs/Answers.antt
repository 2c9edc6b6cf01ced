use Rattle.ds_exporter.specs.HostStates.{process_of}
use Rattle.ds_exporter.specs.Conditions.{IsProcNamed}
use Rattle.ds_report.proofs.Spelt.{item_has}
use Rattle.ds_report.proofs.hosts.push_procs.Goals as goal

pub push_process-requires-clause-named : goal.push_process-requires-clause-named
push_process-requires-clause-named c =
    item_has (IsProcNamed c.args.table.now.here c.args.table.now.rows) process_of c.args.procs.now c.loop-index.index c.index-procs-index.result c.requires.named c.index-procs-index.is c.loop-index-test.true
