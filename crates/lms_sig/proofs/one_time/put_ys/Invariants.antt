use Rattle.std.proofs.Common.{◌≡◌, ◌++◌}
use Rattle.lms_sig.specs.OneTime.{y}
use Rattle.lms_sig.specs.Strings.{joined}
use Rattle.lms_sig.proofs.one_time.put_ys.Given as goal

abbrev pub invariant-chains : goal.invariant-chains
invariant-chains l =
    l.out.items ≡ l.initial.out.items ++ joined (y l.fn.ots l.seed l.id l.q l.fn.hash) l.i
