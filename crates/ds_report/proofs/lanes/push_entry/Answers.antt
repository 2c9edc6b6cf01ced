use Rattle.std.proofs.Common.{◌≡◌, ◌∙◌, map, drop}
use Rattle.std.specs.Prelude.{codes}
use Rattle.ds_model.specs.World.{QueuedLine, FullLine}
use Rattle.ds_exporter.specs.Merging.{plain_waiting, worker_stamped}
use Rattle.ds_report.specs.Printings.{printing_of, planned}
use Rattle.ds_report.specs.Lanes.{waiting_line}
use Rattle.ds_report.proofs.Woven.{one_entry, begun, lines_of_queued, lines_of_full}
use Rattle.ds_report.proofs.Spaced.{queued_words, full_words}
use Rattle.ds_report.proofs.lanes.push_entry.Goals as goal

pub returns-in_ok-push_waiting-in-Queued : goal.returns-in_ok-push_waiting-in-Queued
returns-in_ok-push_waiting-in-Queued c =
    let p = printing_of c.args.doc.now in
    let plan = planned c.args.doc.now in
    λ more. begun p plan c.args.out.now.items _ more (map worker_stamped (drop c.args.from c.args.worker.now)) (lines_of_queued c.args.entry.now c.in-Queued.waiting c.in-Queued.is)
    ∙ one_entry p plan _ _ _ (waiting_line (codes "  queued ") c.in-Queued.waiting) (record { stamp = c.args.entry.now.stamp; line = QueuedLine (plain_waiting c.in-Queued.waiting) })
    more (map worker_stamped (drop c.args.from c.args.worker.now)) _
    c.in_ok-place-in-Queued.ensures.text c.in_ok-push_waiting-in-Queued.ensures (queued_words p plan c.in-Queued.waiting) c.in_ok-place-in-Queued.ensures.place

pub returns-in_ok-push_waiting-in-Full : goal.returns-in_ok-push_waiting-in-Full
returns-in_ok-push_waiting-in-Full c =
    let p = printing_of c.args.doc.now in
    let plan = planned c.args.doc.now in
    λ more. begun p plan c.args.out.now.items _ more (map worker_stamped (drop c.args.from c.args.worker.now)) (lines_of_full c.args.entry.now c.in-Full.waiting c.in-Full.is)
    ∙ one_entry p plan _ _ _ (waiting_line (codes "  full ") c.in-Full.waiting) (record { stamp = c.args.entry.now.stamp; line = FullLine (plain_waiting c.in-Full.waiting) })
    more (map worker_stamped (drop c.args.from c.args.worker.now)) _
    c.in_ok-place-in-Full.ensures.text c.in_ok-push_waiting-in-Full.ensures (full_words p plan c.in-Full.waiting) c.in_ok-place-in-Full.ensures.place
