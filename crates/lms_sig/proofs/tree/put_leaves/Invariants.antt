use Rattle.std.proofs.Common.{◌≡◌, ℕ, ◌+◌, ◌<◌, ◌≤◌, [], slice_index_or}
use Rattle.lms_sig.specs.Merkle.{T}
use Rattle.lms_sig.specs.Parameters.{leaf_count}
use Rattle.lms_sig.proofs.tree.put_leaves.Given as goal

abbrev pub invariant-lanes : goal.invariant-lanes
invariant-lanes i = ((r : ℕ) → leaf_count i.fn.params.lms ≤ r → r < leaf_count i.fn.params.lms + i.first → slice_index_or i.initial.nodes r [] ≡ T i.fn.params i.seed i.id 0 r)
    → (r : ℕ) → leaf_count i.fn.params.lms ≤ r → r < leaf_count i.fn.params.lms + (i.first + i.l) → slice_index_or i.nodes r [] ≡ T i.fn.params i.seed i.id 0 r
