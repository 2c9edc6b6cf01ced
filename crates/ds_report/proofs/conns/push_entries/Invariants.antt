use Rattle.std.proofs.Common.{◌≡◌, ◌++◌, take}
use Rattle.ds_report.specs.Printings.{printing_of, planned}
use Rattle.ds_report.specs.Conns.{conn_entries}
use Rattle.ds_report.proofs.conns.push_entries.Given as goal

abbrev pub invariant-loop-entry : goal.invariant-loop-entry
invariant-loop-entry l = l.out.items ≡ l.initial.out.items ++ conn_entries (printing_of l.doc) (planned l.doc) (take l.entry-index l.entries)
