use Rattle.std.proofs.Common.{◌≡◌, ℕ, ◌<◌, length, slice_index, slice_index_or}
use Rattle.lms_sig.specs.declared.lanes.Turn.{Turn}
use Rattle.lms_sig.proofs.lanes.order_of.Given as goal

abbrev pub invariant-places : goal.invariant-places
invariant-places i = (length i.order ≡ 72) × ((j : ℕ) → j < i.k → (t : Turn) → slice_index i.order j ≡ (slice_index_or i.turns j t).chain)
