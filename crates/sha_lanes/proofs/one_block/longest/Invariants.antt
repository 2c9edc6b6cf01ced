use Rattle.std.proofs.Common.{ℕ, ◌+◌, ◌<◌, ◌≤◌, slice_index}
use Rattle.sha_lanes.proofs.one_block.longest.Given as goal

abbrev pub invariant-lanes : goal.invariant-lanes
invariant-lanes i = (j : ℕ) → j < i.l → slice_index i.to j ≤ slice_index i.from j + i.most
