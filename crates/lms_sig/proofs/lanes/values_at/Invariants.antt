use Rattle.std.proofs.Common.{◌≡◌, ℕ, ◌<◌, [], length, slice_index, slice_index_or}
use Rattle.lms_sig.proofs.lanes.values_at.Given as goal

abbrev pub invariant-lanes : goal.invariant-lanes
invariant-lanes i = (length i.out ≡ 8) × ((j : ℕ) → j < i.l → slice_index_or i.out j [] ≡ slice_index_or i.values (slice_index i.chains j) [])
