use Rattle.std.proofs.Common.{[]}
use Rattle.lms_sig.specs.Merkle.{inner}
use Rattle.lms_sig.proofs.hash.inner_hash.Goals as goal

pub returns : goal.returns
unfolding inner
returns c =
    rw c.prefix.ensures at
    (c.finalize.ensures _ (c.update-3.ensures _ (c.update-2.ensures _ (c.update.ensures [] c.new-hasher.ensures))))
