use Rattle.std.proofs.Common.{◌≡◌, ◌++◌, drop, map}
use Rattle.ds_doc.specs.Names.{number_of}
use Rattle.ds_doc.proofs.rules.addresses.numbers.Given as goal

abbrev pub invariant-loop-name : goal.invariant-loop-name
invariant-loop-name l =
    l.numbers ++ map (λ n. number_of n.value) (drop l.name-index l.name-items)
    ≡ map (λ n. number_of n.value) l.name-items
