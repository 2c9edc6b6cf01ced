use Rattle.std.proofs.Common.{◌≡◌, ◌-◌, ◌*◌, drop}
use Rattle.lms_sig.specs.Merkle.{climb}
use Rattle.lms_sig.proofs.path.climbed.Given as goal

abbrev pub invariant-levels : goal.invariant-levels
invariant-levels l = climb l.id l.node l.value (drop (32 * l.i) l.siblings) (l.levels - l.i)
    ≡ climb l.id l.fn.node l.fn.value l.siblings l.levels
