use Rattle.std.proofs.Common.{◌≡◌}
use Rattle.ds_gen.specs.Generated.{takes}
use Rattle.ds_gen.proofs.scripts.takes.Given as goal

abbrev pub invariant-loop-i : goal.invariant-loop-i
invariant-loop-i l = l.script ≡ takes l.slot l.turn l.i
