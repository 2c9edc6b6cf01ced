use Rattle.std.proofs.Common.{◌∷◌, ◌++◌, ◌∙◌, [], ap₂, slice_index_or}
use Rattle.sha2.specs.Sha256.{sha256}
use Rattle.sha_lanes.proofs.one_block.hashes.Goals as goal

pub returns : goal.returns
returns c l lt =
    let p = slice_index_or c.args.heads.now l [] in
    c.bytes_of.ensures l lt
    ∙ c.step.ensures l lt p (c.fronts.ensures.length l lt) (c.fronts.ensures.words l lt)
    ∙ ap₂ (λ j d. sha256 (p ++ j ∷ d)) (c.widened.ensures.value l lt) (c.words_of.ensures l lt)
