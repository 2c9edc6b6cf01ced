use Rattle.std.proofs.Common.{◌≡◌, ◌∷◌, [], length, slice_index, slice_index_or, sym}
use Rattle.std.specs.Int.{from_be_bytes, w32}
use Rattle.sha_lanes.proofs.Blocks.{front_is}
use Rattle.sha_lanes.proofs.Turns.{eight}
use Rattle.sha_lanes.proofs.bytes.fronts.Goals as goal

pub returns-clause-words : goal.returns-clause-words
returns-clause-words c l lt =
    let p = slice_index_or c.args.fronts.now l [] in
    let len : length p ≡ 22 = c.words_at.ensures.length l lt in
    let end : slice_index (c.end_of.result ∷ c.end_of-2.result ∷ c.end_of-3.result ∷ c.end_of-4.result ∷ c.end_of-5.result ∷ c.end_of-6.result ∷ c.end_of-7.result ∷ c.end_of-8.result ∷ []) l
    ≡ from_be_bytes w32 (slice_index p 20 ∷ slice_index p 21 ∷ 0 ∷ 0 ∷ []) =
    eight (λ l. slice_index (c.end_of.result ∷ c.end_of-2.result ∷ c.end_of-3.result ∷ c.end_of-4.result ∷ c.end_of-5.result ∷ c.end_of-6.result ∷ c.end_of-7.result ∷ c.end_of-8.result ∷ []) l
    ≡ from_be_bytes w32 (slice_index (slice_index_or c.args.fronts.now l []) 20 ∷ slice_index (slice_index_or c.args.fronts.now l []) 21 ∷ 0 ∷ 0 ∷ []))
    c.end_of.ensures c.end_of-2.ensures c.end_of-3.ensures c.end_of-4.ensures c.end_of-5.ensures c.end_of-6.ensures c.end_of-7.ensures c.end_of-8.ensures l lt in
    rw (c.words_at.ensures.value l lt, c.words_at-2.ensures.value l lt, c.words_at-3.ensures.value l lt, c.words_at-4.ensures.value l lt, c.words_at-5.ensures.value l lt, end)
    (sym (front_is p len))
