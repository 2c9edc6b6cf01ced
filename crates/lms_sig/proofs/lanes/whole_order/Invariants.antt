use Rattle.std.proofs.Common.{◌≡◌, ℕ, ◌<◌, length, slice_index}
use Rattle.lms_sig.proofs.lanes.whole_order.Given as goal

abbrev pub invariant-places : goal.invariant-places
invariant-places i = (length i.order ≡ 72) × ((j : ℕ) → j < i.k → slice_index i.order j ≡ j)
