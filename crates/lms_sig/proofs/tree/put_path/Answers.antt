use Rattle.std.proofs.Common.{◌≡◌, ◌-◌, ◌+◌, [], suc, append_assoc, append-nil, arith, get_or}
use Rattle.lms_sig.specs.TreeNodes.{IsNode}
use Rattle.lms_sig.specs.Merkle.{T, sibling}
use Rattle.lms_sig.specs.Parameters.{height}
use Rattle.lms_sig.proofs.Climbs.{path-none, path-step}
use Rattle.lms_sig.proofs.Trees.{node-below, node-positive, parent_node, sibling_node}
use Rattle.lms_sig.proofs.tree.put_path.Goals as goal

pub bounds-nodes-sibling_of : goal.bounds-nodes-sibling_of
bounds-nodes-sibling_of c =
    let left = height c.args.params.lms - (c.levels._level + 1) in
    let deeper : height c.args.params.lms - c.levels._level ≡ suc left = omega arith in
    let at : IsNode c.args.params c.levels._level (suc left) c.levels.node = rw (← deeper) c.levels.invariant.0 in
    let beside = sibling_node c.args.params c.levels._level left c.levels.node at in
    rw c.sibling_of.ensures
    (omega (arith, c.requires.size, node-below c.args.params c.levels._level (suc left) (sibling c.levels.node) beside))

pub levels-preserved : goal.levels-preserved
levels-preserved c =
    let left = height c.args.params.lms - (c.levels._level + 1) in
    let deeper : height c.args.params.lms - c.levels._level ≡ suc left = omega arith in
    let at : IsNode c.args.params c.levels._level (suc left) c.levels.node = rw (← deeper) c.levels.invariant.0 in
    let beside = sibling_node c.args.params c.levels._level left c.levels.node at in (
      parent_node c.args.params c.levels._level left c.levels.node at,
      λ seed id holds.
          let value : get_or c.args.nodes.now (sibling c.levels.node) [] ≡ T c.args.params seed id c.levels._level (sibling c.levels.node) =
          holds c.levels._level (suc left) (sibling c.levels.node) beside
          (omega (arith, node-positive c.args.params c.levels._level (suc left) (sibling c.levels.node) beside)) in
          let grown = rw (c.sibling_of.ensures, value) at c.in_ok-extend_from_slice.ensures.items in
          let step = path-step c.args.params seed id c.levels._level c.levels.node (height c.args.params.lms - c.levels._level) left deeper in
          let known = rw step at (c.levels.invariant.1 seed id holds) in
          rw (grown, append_assoc) known,
    )

pub returns : goal.returns
returns c = λ seed id holds.
    let none = path-none c.args.params seed id c.levels._level c.levels.node (height c.args.params.lms - c.levels._level) (omega arith) in
    rw (none, append-nil) at (c.levels.invariant.1 seed id holds)
