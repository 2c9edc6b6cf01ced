use Rattle.std.proofs.Common.{◌≡◌, ◌++◌, map}
use Rattle.ds_crew.specs.Histories.{kept_as}
use Rattle.ds_crew.proofs.object_histories.all_kept.Given as goal

abbrev pub invariant-loop-entry : goal.invariant-loop-entry
invariant-loop-entry l = l.kept.items ++ map (kept_as l.object) l.entry-iterator.rest.items ≡ map (kept_as l.object) l.fn.entries.items
