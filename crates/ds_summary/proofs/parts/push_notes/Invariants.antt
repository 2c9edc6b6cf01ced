use Rattle.std.proofs.Common.{◌≡◌, ◌++◌, take, flat_map}
use Rattle.ds_summary.specs.Counts.{note_counts}
use Rattle.ds_summary.proofs.parts.push_notes.Given as goal

abbrev pub invariant-loop-note : goal.invariant-loop-note
invariant-loop-note l = l.out.items ≡ l.initial.out.items ++ flat_map note_counts (take l.note-index l.notes)
