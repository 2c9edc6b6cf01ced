use Rattle.std.proofs.Common.{◌≡◌, ◌++◌, take}
use Rattle.ds_report.specs.Printings.{printing_of, planned}
use Rattle.ds_report.specs.Words.{notes_text}
use Rattle.ds_report.proofs.processes.push_notes.Given as goal

abbrev pub invariant-loop-note : goal.invariant-loop-note
invariant-loop-note l = l.out.items ≡ l.initial.out.items ++ notes_text (printing_of l.doc) (planned l.doc) (take l.note-index l.notes)
