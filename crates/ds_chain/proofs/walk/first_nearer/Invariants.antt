use Rattle.std.proofs.Common.{◌≡◌, ℕ, ◌<◌, Some, None, slice_index_or}
use Rattle.ds_chain.specs.Chain.{IsEdge}
use Rattle.ds_chain.proofs.walk.first_nearer.Given as goal

abbrev pub invariant-loop-place : goal.invariant-loop-place
invariant-loop-place l = (sooner other : ℕ) → sooner < l.place → IsEdge l.edges sooner l.by other → slice_index_or l.distances other None ≡ Some l.left → ⊥
