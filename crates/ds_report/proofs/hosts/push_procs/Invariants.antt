use Rattle.std.proofs.Common.{◌≡◌, ◌++◌, drop, map}
use Rattle.ds_exporter.specs.HostStates.{process_of}
use Rattle.ds_report.specs.Printings.{printing_of, planned}
use Rattle.ds_report.specs.Hosts.{procs_text}
use Rattle.ds_report.proofs.hosts.push_procs.Given as goal

abbrev pub invariant-loop-index : goal.invariant-loop-index
invariant-loop-index l =
    l.initial.out.items ++ procs_text (printing_of l.doc) (planned l.doc) l.host l.table.here l.table.rows 0 (map process_of l.procs)
    ≡ l.out.items ++ procs_text (printing_of l.doc) (planned l.doc) l.host l.table.here l.table.rows l.index (map process_of (drop l.index l.procs))
