use Rattle.std.proofs.Common.{◌≡◌, ℕ, ◌<◌, length, slice_index}
use Rattle.lms_sig.proofs.lanes.bytes_at.Given as goal

abbrev pub invariant-lanes : goal.invariant-lanes
invariant-lanes i = (length i.out ≡ 8) × ((j : ℕ) → j < i.l → slice_index i.out j ≡ slice_index i.bytes (slice_index i.chains j))
