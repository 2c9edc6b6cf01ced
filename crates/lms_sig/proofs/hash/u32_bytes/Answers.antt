use Rattle.std.proofs.Common.{rules}
use Rattle.lms_sig.specs.Strings.{u32str}
use Rattle.lms_sig.proofs.hash.u32_bytes.Goals as goal

pub returns : goal.returns
unfolding u32str
returns c = search rules
