use Rattle.std.proofs.Common.{◌≡◌, ℕ, List, ◌+◌, ◌-◌, ◌++◌}
use Rattle.lms_sig.specs.TreeNodes.{HoldsFrom, IsNode}
use Rattle.lms_sig.specs.Merkle.{path}
use Rattle.lms_sig.specs.Parameters.{height, leaf_count}
use Rattle.lms_sig.proofs.tree.put_path.Given as goal

abbrev pub invariant-levels : goal.invariant-levels
invariant-levels l =
    IsNode l.fn.params l._level (height l.fn.params.lms - l._level) l.node
    × ((seed id : List ℕ) → HoldsFrom l.fn.params seed id l.nodes 1 →
    l.out.items ++ path l.fn.params seed id l._level l.node (height l.fn.params.lms - l._level)
    ≡ l.initial.out.items ++ path l.fn.params seed id 0 (leaf_count l.fn.params.lms + l.q) (height l.fn.params.lms))
