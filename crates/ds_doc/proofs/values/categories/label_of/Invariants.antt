use Rattle.std.proofs.Common.{◌≡◌, [], drop}
use Rattle.ds_doc.specs.Values.{joined_each}
use Rattle.ds_doc.proofs.values.categories.label_of.Given as goal

abbrev pub invariant-loop-name : goal.invariant-loop-name
invariant-loop-name l = joined_each l.keys l.label (drop l.name-index l.name-items) ≡ joined_each l.keys [] l.name-items
