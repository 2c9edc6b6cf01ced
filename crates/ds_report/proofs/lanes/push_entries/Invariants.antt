use Rattle.std.proofs.Common.{◌≡◌, ◌++◌, drop, map, flat_map}
use Rattle.ds_exporter.specs.Merging.{entry_lines, merged, worker_stamped}
use Rattle.ds_report.specs.Printings.{printing_of, planned}
use Rattle.ds_report.specs.Lanes.{lines_text}
use Rattle.ds_report.proofs.lanes.push_entries.Given as goal

abbrev pub invariant-loop-entry : goal.invariant-loop-entry
invariant-loop-entry l =
    l.initial.out.items ++ lines_text (printing_of l.doc) (planned l.doc) (merged (flat_map entry_lines l.senders) (map worker_stamped l.worker))
    ≡ l.out.items ++ lines_text (printing_of l.doc) (planned l.doc) (merged (flat_map entry_lines (drop l.entry-index l.senders)) (map worker_stamped (drop l.place l.worker)))
