use Rattle.std.proofs.Common.{◌≡◌, ◌++◌, drop, map}
use Rattle.ds_exporter.specs.Merging.{worker_stamped}
use Rattle.ds_report.specs.Printings.{printing_of, planned}
use Rattle.ds_report.specs.Lanes.{lines_text, before, behind}
use Rattle.ds_report.proofs.lanes.push_before.Given as goal

abbrev pub invariant-loop-place : goal.invariant-loop-place
invariant-loop-place l =
    (l.initial.out.items ++ lines_text (printing_of l.doc) (planned l.doc) (before l.stamp (map worker_stamped (drop l.from l.worker)))
    ≡ l.out.items ++ lines_text (printing_of l.doc) (planned l.doc) (before l.stamp (map worker_stamped (drop l.place l.worker))))
    × (behind l.stamp (map worker_stamped (drop l.place l.worker)) ≡ behind l.stamp (map worker_stamped (drop l.from l.worker)))
