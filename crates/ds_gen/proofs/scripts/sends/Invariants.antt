use Rattle.std.proofs.Common.{◌≡◌}
use Rattle.ds_gen.specs.Generated.{sends}
use Rattle.ds_gen.proofs.scripts.sends.Given as goal

abbrev pub invariant-loop-i : goal.invariant-loop-i
invariant-loop-i l = l.script ≡ sends l.i
