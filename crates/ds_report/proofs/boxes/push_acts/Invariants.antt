use Rattle.std.proofs.Common.{◌≡◌, ◌++◌, [], drop}
use Rattle.ds_report.specs.Printings.{printing_of, planned}
use Rattle.ds_report.specs.Boxes.{acts_text}
use Rattle.ds_report.proofs.boxes.push_acts.Given as goal

abbrev pub invariant-loop-entry : goal.invariant-loop-entry
invariant-loop-entry l =
    l.initial.out.items ++ acts_text (printing_of l.doc) (planned l.doc) l.entries []
    ≡ l.out.items ++ acts_text (printing_of l.doc) (planned l.doc) (drop l.entry-index l.entries) l.waiting.items
