use Rattle.std.proofs.Common.{◌≡◌, ℕ, ◌+◌, ◌*◌, ◌<◌, ◌≤◌, [], slice_index_or}
use Rattle.lms_sig.specs.Merkle.{T}
use Rattle.lms_sig.specs.Parameters.{leaf_count}
use Rattle.lms_sig.proofs.tree.fill_leaves.Given as goal

abbrev pub invariant-eights : goal.invariant-eights
invariant-eights i = (r : ℕ) → leaf_count i.params.lms ≤ r → r < leaf_count i.params.lms + 8 * i.group
    → slice_index_or i.nodes r [] ≡ T i.params i.seed i.id 0 r
