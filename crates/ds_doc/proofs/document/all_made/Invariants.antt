use Rattle.std.proofs.Common.{◌≡◌, ◌++◌, map, Ok}
use Rattle.ds_doc.proofs.document.all_made.Given as goal

abbrev pub invariant-loop-one : goal.invariant-loop-one
invariant-loop-one l = map Ok l.all.items ++ l.one-iterator.rest.items ≡ l.fn.made.items
