use Rattle.std.proofs.Common.{rules}
use Rattle.lms_sig.specs.Strings.{u16str}
use Rattle.lms_sig.proofs.hash.u16_bytes.Goals as goal

pub returns : goal.returns
unfolding u16str
returns c = search rules
