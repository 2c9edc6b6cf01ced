use Rattle.std.proofs.Common.{◌≡◌, ◌++◌, drop, map}
use Rattle.ds_doc.specs.Values.{category_of}
use Rattle.ds_doc.proofs.values.categories.rows_of.Given as goal

abbrev pub invariant-loop-name : goal.invariant-loop-name
invariant-loop-name l =
    l.rows ++ map (category_of l.keys) (drop l.name-index l.names)
    ≡ map (category_of l.keys) l.names
