use Rattle.std.proofs.Common.{◌≡◌, ℕ, ◌+◌, ◌<◌, ◌≤◌, ◌++◌, [], length, slice_index_or, take}
use Rattle.lms_sig.proofs.leaves.put_all.Given as goal

abbrev pub invariant-lanes : goal.invariant-lanes
invariant-lanes g i = (length i.rooms ≡ 8) × (((j : ℕ) → j < i.l →
    (take (i.at + g.row.N) (slice_index_or i.rooms j []) ≡ take i.at (slice_index_or i.initial.rooms j []) ++ slice_index_or i.pieces j [])
    × (length (slice_index_or i.rooms j []) ≡ g.row.L))
    × ((j : ℕ) → i.l ≤ j → slice_index_or i.rooms j [] ≡ slice_index_or i.initial.rooms j []))
