use Rattle.std.proofs.Common.{ℕ}
use Rattle.ds_chain.specs.Distance.{AreKnown}
use Rattle.ds_chain.proofs.distance.settle.Given as goal

abbrev pub invariant-loop-level : goal.invariant-loop-level
invariant-loop-level l = (key : ℕ) → AreKnown l.edges key 0 l.initial.distances → AreKnown l.edges key l.level l.distances
