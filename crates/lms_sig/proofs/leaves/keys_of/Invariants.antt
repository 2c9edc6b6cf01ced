use Rattle.std.proofs.Common.{◌≡◌, ℕ, ◌+◌, ◌*◌, ◌<◌, ◌++◌, [], length, slice_index_or, take}
use Rattle.lms_sig.specs.OneTime.{chain_end, d_pblc}
use Rattle.lms_sig.specs.Strings.{joined, u16str, u32str}
use Rattle.lms_sig.proofs.leaves.keys_of.Given as goal

abbrev pub invariant-columns : goal.invariant-columns
invariant-columns g i = (l : ℕ) → l < 8 →
    (take (22 + 32 * i.i) (slice_index_or i.rooms l [])
    ≡ i.id ++ u32str (i.first + l) ++ u16str d_pblc ++ joined (chain_end i.fn.ots i.seed i.id (i.first + l)) i.i)
    × (length (slice_index_or i.rooms l []) ≡ g.row.L)
