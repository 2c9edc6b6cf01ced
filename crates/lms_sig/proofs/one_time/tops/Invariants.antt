use Rattle.std.proofs.Common.{◌≡◌, ℕ, ◌<◌, ◌≤◌, length, slice_index}
use Rattle.lms_sig.proofs.one_time.tops.Given as goal

abbrev pub invariant-places : goal.invariant-places
invariant-places i = (length i.out ≡ 72) × (((j : ℕ) → j < i.i → slice_index i.out j ≡ i.top)
    × ((j : ℕ) → i.i ≤ j → slice_index i.out j ≡ 0))
