use Rattle.std.proofs.Common.{[]}
use Rattle.lms_sig.specs.Strings.{u8str}
use Rattle.lms_sig.proofs.chain.step_hash.Goals as goal

pub returns : goal.returns
unfolding u8str
returns c = c.finalize.ensures _ (c.update-3.ensures _ (c.update-2.ensures _ (c.update.ensures [] c.new-hasher.ensures)))
