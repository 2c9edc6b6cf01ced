use Rattle.std.proofs.Common.{◌∙◌, [], slice_index_or}
use Rattle.sha_lanes.proofs.one_block.chains.Goals as goal

pub returns : goal.returns
returns c l lt =
    let p = slice_index_or c.args.heads.now l [] in
    let whole = c.all_steps.ensures l lt p (c.fronts.ensures.length l lt) (c.fronts.ensures.words l lt) in
    c.bytes_of.ensures l lt ∙ rw (c.widened.ensures.value l lt, c.widened-2.ensures.value l lt, c.words_of.ensures l lt) at whole
