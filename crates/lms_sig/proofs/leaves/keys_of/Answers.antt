use Rattle.std.proofs.Common.{◌≡◌, ◌+◌, ◌*◌, ◌++◌, ◌∙◌, [], List, ℕ, ap, arith, replicate, slice_index, slice_index_or, sym, take}
use Rattle.std.proofs.lemmas.List.{take_all}
use Rattle.std.proofs.lemmas.Simd.{get_or-replicate}
use Rattle.sha2.specs.Sha256.{sha256}
use Rattle.sha_lanes.proofs.Vectors.{at_splat}
use Rattle.lms_sig.specs.OneTime.{K, chain_end, d_pblc}
use Rattle.lms_sig.specs.Parameters.{chain_length, digit_count}
use Rattle.lms_sig.specs.Strings.{u16str, u32str}
use Rattle.lms_sig.proofs.Chains.{joined-grows, joined-starts}
use Rattle.lms_sig.proofs.Eights.{end_is}
use Rattle.lms_sig.proofs.leaves.keys_of.Goals as goal

pub columns-init : goal.columns-init
columns-init g c l lt =
    let I = c.args.id.now in
    let q = c.args.first + l in (
      joined-starts (λ (xs : List ℕ). take 22 (slice_index_or c.put_all.new.rooms l []) ≡ xs) (I ++ u32str q ++ u16str d_pblc) (chain_end c.args.ots c.args.seed.now I q)
          (c.put_all.ensures.value l lt ∙ c.leaf_prefixes.ensures l lt),
      c.put_all.ensures.length l lt,
    )

pub columns-preserved : goal.columns-preserved
columns-preserved g c l lt =
    let I = c.args.id.now in
    let seed = c.args.seed.now in
    let q = c.args.first + l in
    let i = c.columns.i in
    let top = chain_length c.args.ots in
    let zero : slice_index (replicate 8 0) l ≡ 0 = at_splat 8 l lt 0 in
    let number : slice_index (replicate 8 0xff) l ≡ 0xff = at_splat 8 l lt 0xff in
    let whole : slice_index (replicate 8 c.chain_length-tops.result) l ≡ top = at_splat 8 l lt c.chain_length-tops.result ∙ c.chain_length-tops.ensures in
    let value : slice_index_or (replicate 8 seed) l [] ≡ seed = get_or-replicate 8 l seed [] lt in
    let start = rw (c.leaf_prefixes-heads.ensures l lt, number, value) at (c.hashes-starts.ensures l lt) in
    let steps = rw (c.leaf_prefixes-heads.ensures l lt, zero, whole) at (c.chains-ends.ensures l lt) in
    let end = end_is c.args.ots seed I q i _ _ start steps in
    let more : 22 + 32 * i + 32 ≡ 22 + 32 * (i + 1) = omega arith in
    let before = c.columns.invariant l lt in (
      rw more at (joined-grows (λ (xs : List ℕ). take (22 + 32 * i + 32) (slice_index_or c.put_all-in-columns.new.rooms l []) ≡ xs)
          (I ++ u32str q ++ u16str d_pblc) (chain_end c.args.ots seed I q) i _ end
          (rw before.0 at (c.put_all-in-columns.ensures.value l lt))),
      c.put_all-in-columns.ensures.length l lt,
    )

pub returns : goal.returns
unfolding K
returns g c l lt =
    let all : c.columns.i ≡ digit_count c.args.ots = omega arith in
    let room = slice_index_or c.columns.rooms l [] in
    let before = c.columns.invariant l lt in
    let count = digit_count c.args.ots in
    let whole : take (22 + 32 * count) room ≡ room = take_all (22 + 32 * count) room (omega (arith, c.requires.size, before.1)) in
    c.digests.ensures l lt ∙ ap sha256 (sym whole ∙ rw all at before.0)
