use Rattle.std.proofs.Common.{[]}
use Rattle.lms_sig.specs.Merkle.{leaf}
use Rattle.lms_sig.proofs.hash.leaf_hash.Goals as goal

pub returns : goal.returns
unfolding leaf
returns c =
    rw c.prefix.ensures at (c.finalize.ensures _ (c.update-2.ensures _ (c.update.ensures [] c.new-hasher.ensures)))
