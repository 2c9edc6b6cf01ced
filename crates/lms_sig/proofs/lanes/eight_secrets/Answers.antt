use Rattle.std.proofs.Common.{◌≡◌, ◌∷◌, ◌++◌, ◌∙◌, [], ap, append_assoc, replicate, slice_index, slice_index_or, sym}
use Rattle.std.proofs.lemmas.Simd.{get_or-replicate}
use Rattle.sha2.specs.Sha256.{sha256}
use Rattle.sha_lanes.proofs.Vectors.{at_splat}
use Rattle.lms_sig.specs.OneTime.{x}
use Rattle.lms_sig.specs.Strings.{u16str, u32str, u8str}
use Rattle.lms_sig.proofs.lanes.eight_secrets.Goals as goal

pub returns : goal.returns
unfolding u8str x
returns c l lt =
    let seed = c.args.seed.now in
    let p = c.args.id.now ++ u32str c.args.q ++ u16str (slice_index c.args.chains.now l) in
    let number : slice_index (replicate 8 0xff) l ≡ 0xff = at_splat 8 l lt 0xff in
    let value : slice_index_or (replicate 8 seed) l [] ≡ seed = get_or-replicate 8 l seed [] lt in
    rw (c.prefixes.ensures l lt, number, value) at (c.hashes.ensures l lt)
    ∙ ap sha256 (sym (append_assoc p (0xff ∷ []) seed))
