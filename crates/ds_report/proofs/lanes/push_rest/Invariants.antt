use Rattle.std.proofs.Common.{◌≡◌, ◌++◌, take, map}
use Rattle.ds_exporter.specs.Merging.{worker_stamped}
use Rattle.ds_report.specs.Printings.{printing_of, planned}
use Rattle.ds_report.specs.Lanes.{lines_text}
use Rattle.ds_report.proofs.lanes.push_rest.Given as goal

abbrev pub invariant-loop-entry : goal.invariant-loop-entry
invariant-loop-entry l = l.out.items ≡ l.initial.out.items ++ lines_text (printing_of l.doc) (planned l.doc) (map worker_stamped (take l.entry-index l.worker))
