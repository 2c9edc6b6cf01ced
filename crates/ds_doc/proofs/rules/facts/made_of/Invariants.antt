use Rattle.std.proofs.Common.{◌≡◌, ◌++◌, drop, map}
use Rattle.ds_doc.proofs.rules.facts.made_of.Given as goal

abbrev pub invariant-loop-process : goal.invariant-loop-process
invariant-loop-process l =
    l.made ++ map (λ p. p.made) (drop l.process-index l.process-items)
    ≡ map (λ p. p.made) l.process-items
