use Rattle.std.proofs.Common.{[]}
use Rattle.lms_sig.specs.OneTime.{Q}
use Rattle.lms_sig.proofs.one_time.message_hash.Goals as goal

pub returns : goal.returns
unfolding Q
returns c =
    rw c.prefix.ensures at
    (c.finalize.ensures _ (c.update-3.ensures _ (c.update-2.ensures _ (c.update.ensures [] c.new-hasher.ensures))))
