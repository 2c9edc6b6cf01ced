use Rattle.std.proofs.Common.{◌≡◌, ℕ, List, ◌≤◌}
use Rattle.lms_sig.specs.TreeNodes.{HoldsFrom}
use Rattle.lms_sig.specs.Parameters.{leaf_count}
use Rattle.lms_sig.specs.declared.params.Params.{Params}
use Rattle.lms_sig.proofs.tree.fill_inner.Given as goal

abbrev pub invariant-inner : goal.invariant-inner
invariant-inner l = (l.node ≤ l.leaves) × ((params : Params) (seed : List ℕ) → l.leaves ≡ leaf_count params.lms →
    HoldsFrom params seed l.id l.initial.nodes l.leaves → HoldsFrom params seed l.id l.nodes l.node)

abbrev pub decreases-inner : goal.decreases-inner
decreases-inner l = l.node
