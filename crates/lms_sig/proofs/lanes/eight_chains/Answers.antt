use Rattle.std.proofs.Common.{◌∙◌, slice_index}
use Rattle.lms_sig.proofs.Eights.{chained_is}
use Rattle.lms_sig.proofs.lanes.eight_chains.Goals as goal

pub returns : goal.returns
returns c l lt =
    rw (c.prefixes.ensures l lt) at (c.chains.ensures l lt) ∙ chained_is c.args.id.now c.args.q (slice_index c.args.chains.now l) _ _ _
