use Rattle.std.proofs.Common.{◌≡◌, ℕ}
use Rattle.std.specs.Prelude.{false}
use Rattle.ds_chain.specs.Distance.{AreKnown}
use Rattle.ds_chain.proofs.Levels.{ArePartly}
use Rattle.ds_chain.proofs.distance.add_level.Given as goal

abbrev pub invariant-loop-entry : goal.invariant-loop-entry
invariant-loop-entry l = record { partly : (key : ℕ) → AreKnown l.edges key l.level l.initial.distances → ArePartly l.edges key l.level l.entry-index l.distances; unchanged : l.found ≡ false → l.distances ≡ l.initial.distances }
