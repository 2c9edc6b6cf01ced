-- What a signing key keeps: the nodes of its tree, node r at place r.
use Rattle.std.specs.Prelude.{◌≡◌, ℕ, ◌+◌, ◌*◌, ◌^◌, ◌<◌, ◌≤◌, List, [], length, slice_index_or}
use Rattle.lms_sig.specs.Parameters.{height, leaf_count}
use Rattle.lms_sig.specs.Merkle.{T}
use Rattle.lms_sig.specs.declared.params.Params.{Params}

-- node r stands d levels below the root of the tree, and k levels above its leaves
pub record IsNode (params : Params) (k d r : ℕ) : Type 0 where
  pub levels : k + d ≡ height params.lms
  pub from : 2 ^ d ≤ r
  pub below : r < 2 * 2 ^ d

-- the nodes from this one on are the definition's
abbrev pub HoldsFrom : Params → List ℕ → List ℕ → List (List ℕ) → ℕ → Type 0
HoldsFrom params SEED I nodes first =
    (k d r : ℕ) → IsNode params k d r → first ≤ r → slice_index_or nodes r [] ≡ T params SEED I k r

-- all nodes are there, and are the definition's
pub record IsTree (params : Params) (SEED I : List ℕ) (nodes : List (List ℕ)) : Type 0 where
  pub size : length nodes ≡ 2 * leaf_count params.lms
  pub holds : HoldsFrom params SEED I nodes 1
