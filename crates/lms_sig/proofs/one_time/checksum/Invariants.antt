use Rattle.std.proofs.Common.{◌≡◌}
use Rattle.lms_sig.specs.OneTime.{missing}
use Rattle.lms_sig.proofs.one_time.checksum.Given as goal

abbrev pub invariant-digits : goal.invariant-digits
invariant-digits l = l.sum ≡ missing l.ots l.hash l.i
