use Rattle.std.proofs.Common.{drop}
use Rattle.std.specs.List.{AllByRecursion}
use Rattle.ds_boot.specs.Desks.{IsTyped}
use Rattle.ds_boot.proofs.desks.show_specs.Given as goal

abbrev pub invariant-loop-spec : goal.invariant-loop-spec
invariant-loop-spec l =
    AllByRecursion IsTyped (drop l.spec-index l.specs) → AllByRecursion IsTyped l.specs
