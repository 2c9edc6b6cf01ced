use Rattle.std.proofs.Common.{rules}
use Rattle.lms_sig.specs.Strings.{u32_at}
use Rattle.lms_sig.proofs.hash.read_u32.Goals as goal

pub returns : goal.returns
unfolding u32_at
returns c = search rules
