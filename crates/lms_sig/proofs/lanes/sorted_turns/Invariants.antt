use Rattle.std.proofs.Common.{◌≡◌, ℕ, ◌<◌, length, slice_index_or}
use Rattle.lms_sig.specs.declared.lanes.Turn.{Turn}
use Rattle.lms_sig.proofs.lanes.sorted_turns.Given as goal

abbrev pub invariant-chains : goal.invariant-chains
invariant-chains i = (length i.turns ≡ 72) × ((j : ℕ) → j < i.i → (t : Turn) → (slice_index_or i.turns j t).chain ≡ j)
