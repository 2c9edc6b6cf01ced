-- Nodes of a tree: where they stand, and how a list of them is filled.
use Rattle.std.proofs.Common.{◌≡◌, ◌≢◌, ℕ, zero, suc, ◌+◌, ◌-◌, ◌*◌, ◌/◌, ◌%◌, ◌^◌, ◌<◌, ◌≤◌, ◌⊎◌, inl, inr, List, [], length, get_or, set, refl, arith, get_or-set_other, get_or-set_same}
use Rattle.std.proofs.Math.Nat.{pow-succ'}
use Rattle.std.proofs.lemmas.Bool.{cases_eq}
use Rattle.lms_sig.specs.TreeNodes.{HoldsFrom, IsNode}
use Rattle.lms_sig.specs.Merkle.{T, inner, leaf, sibling}
use Rattle.lms_sig.specs.OneTime.{K}
use Rattle.lms_sig.specs.Parameters.{height, leaf_count}
use Rattle.lms_sig.specs.declared.params.LmsType.{LmsType}
use Rattle.lms_sig.specs.declared.params.LmsType.TheVariants.{H5, H10}
use Rattle.lms_sig.specs.declared.params.Params.{Params}

-- a level more has twice as many nodes
pub pow-double : (d : ℕ) → 2 ^ suc d ≡ 2 * 2 ^ d
pow-double d = pow-succ' 2 d

pub pow-le_add : (d k : ℕ) → 2 ^ d ≤ 2 ^ (k + d)
pow-le_add d zero =
    let none : zero + d ≡ d = omega arith in
    rw none (omega arith)
pow-le_add d (suc k) =
    let more : suc k + d ≡ suc (k + d) = omega arith in
    rw (more, pow-double (k + d)) (omega (arith, pow-le_add d k))

-- the children of a node, its parent and its sibling
pub left_child : (params : Params) (k d r : ℕ) → IsNode params (suc k) d r → IsNode params k (suc d) (2 * r)
left_child params k d r at = record {
  levels = omega (arith, at.levels);
  from = omega (arith, at.from, pow-double d);
  below = omega (arith, at.below, pow-double d);
}

pub right_child : (params : Params) (k d r : ℕ) → IsNode params (suc k) d r → IsNode params k (suc d) (2 * r + 1)
right_child params k d r at = record {
  levels = omega (arith, at.levels);
  from = omega (arith, at.from, pow-double d);
  below = omega (arith, at.below, pow-double d);
}

pub parent_node : (params : Params) (k d r : ℕ) → IsNode params k (suc d) r → IsNode params (k + 1) d (r / 2)
parent_node params k d r at = record {
  levels = omega (arith, at.levels);
  from = omega (arith, at.from, pow-double d);
  below = omega (arith, at.below, pow-double d);
}

pub sibling_even : (r : ℕ) → r % 2 ≡ 0 → sibling r ≡ r + 1
sibling_even r even = rw even refl

pub sibling_odd : (r : ℕ) → r % 2 ≡ 1 → sibling r ≡ r - 1
sibling_odd r odd = rw odd refl

pub even_or_odd : (r : ℕ) → (r % 2 ≡ 0) ⊎ (r % 2 ≡ 1)
even_or_odd r = elim (cases_eq (r % 2) 0) [ inl e ↦ inl e | inr o ↦ inr (omega arith) ]

pub sibling_node : (params : Params) (k d r : ℕ) → IsNode params k (suc d) r → IsNode params k (suc d) (sibling r)
sibling_node params k d r at =
    elim (even_or_odd r) [
      | inl even ↦ rw (sibling_even r even) (record {
        levels = at.levels;
        from = omega (arith, at.from);
        below = omega (arith, at.below, pow-double d);
      })
      | inr odd ↦ rw (sibling_odd r odd) (record {
        levels = at.levels;
        from = omega (arith, at.from, pow-double d);
        below = omega (arith, at.below);
      })
    ]

-- a node's number is in the list
pub node-positive : (params : Params) (k d r : ℕ) → IsNode params k d r → 0 < r
node-positive params k d r at = omega (arith, at.from, pow-le_add 0 d)

pub node-below : (params : Params) (k d r : ℕ) → IsNode params k d r → r < 2 * leaf_count params.lms
node-below params k d r at =
    let wide : 2 ^ d ≤ 2 ^ height params.lms = rw (← at.levels) (pow-le_add d k) in
    omega (arith, at.below, wide)

pub leaf_count-positive : (params : Params) → 0 < leaf_count params.lms
leaf_count-positive params =
    let whole : height params.lms + 0 ≡ height params.lms = omega arith in
    omega (arith, rw whole at (pow-le_add 0 (height params.lms)))

-- a leaf stands at level 0, and a node from the first leaf on is a leaf
pub leaf_node : (params : Params) (q : ℕ) → q < leaf_count params.lms → IsNode params 0 (height params.lms) (leaf_count params.lms + q)
leaf_node params q below = record { levels = omega arith; from = omega arith; below = omega arith }

pub not_inner : (params : Params) (k d r : ℕ) → IsNode params (suc k) d r → leaf_count params.lms ≤ r → ⊥
not_inner params k d r at from =
    let same : k + suc d ≡ height params.lms = omega (arith, at.levels) in
    let wide : 2 ^ suc d ≤ 2 ^ height params.lms = rw (← same) (pow-le_add (suc d) k) in
    omega (arith, at.below, pow-double d, wide, from)

-- one more leaf
pub leaf-step : (params : Params) (SEED I : List ℕ) (nodes : List (List ℕ)) (q : ℕ) (value : List ℕ) →
    length nodes ≡ 2 * leaf_count params.lms → q < leaf_count params.lms →
    ((r : ℕ) → leaf_count params.lms ≤ r → r < leaf_count params.lms + q → get_or nodes r [] ≡ T params SEED I 0 r) →
    value ≡ leaf I (leaf_count params.lms + q) (K params.ots SEED I q) →
    (r : ℕ) → leaf_count params.lms ≤ r → r < leaf_count params.lms + (q + 1) →
    get_or (set nodes (leaf_count params.lms + q) value) r [] ≡ T params SEED I 0 r
unfolding T
leaf-step params SEED I nodes q value size below before same r from to =
    elim (cases_eq r (leaf_count params.lms + q)) [
      | inl e ↦
          let room : leaf_count params.lms + q < length nodes = omega arith in
          let number : leaf_count params.lms + q - leaf_count params.lms ≡ q = omega arith in
          rw (e, number, get_or-set_same nodes (leaf_count params.lms + q) value [] room) same
      | inr other ↦
          rw (get_or-set_other nodes (leaf_count params.lms + q) r value [] other) (before r from (omega arith))
    ]

-- leaves come in whole eights
pub whole_eights : (t : LmsType) → 8 * (leaf_count t / 8) ≡ leaf_count t
whole_eights H5 = refl
whole_eights H10 = refl

-- once all leaves are there, the nodes from the first leaf on are
pub leaves-all : (params : Params) (SEED I : List ℕ) (nodes : List (List ℕ)) (q : ℕ) → leaf_count params.lms ≤ q →
    ((r : ℕ) → leaf_count params.lms ≤ r → r < leaf_count params.lms + q → get_or nodes r [] ≡ T params SEED I 0 r) →
    HoldsFrom params SEED I nodes (leaf_count params.lms)
leaves-all params SEED I nodes q all known zero d r at from = known r from (omega (arith, node-below params 0 d r at))
leaves-all params SEED I nodes q all known (suc k) d r at from = absurd (not_inner params k d r at from)

-- one more inner node, over its children
pub inner-step : (params : Params) (SEED I : List ℕ) (nodes : List (List ℕ)) (m n : ℕ) (value : List ℕ) →
    m + 1 ≡ n → 0 < m → m < leaf_count params.lms → m < length nodes →
    HoldsFrom params SEED I nodes n →
    value ≡ inner I m (get_or nodes (2 * m) []) (get_or nodes (2 * m + 1) []) →
    HoldsFrom params SEED I (set nodes m value) m
unfolding T
inner-step params SEED I nodes m n value next positive inside room before same zero d r at from =
    let lowest : d ≡ height params.lms = omega (arith, at.levels) in
    let leaf_from : leaf_count params.lms ≤ r = rw (← lowest) at.from in
    let other : r ≢ m = λ e. omega arith in
    rw (get_or-set_other nodes m r value [] other) (before zero d r at (omega arith))
inner-step params SEED I nodes m n value next positive inside room before same (suc k) d r at from =
    elim (cases_eq r m) [
      | inl e ↦
          let here : IsNode params (suc k) d m = rw e at at in
          let left = before k (suc d) (2 * m) (left_child params k d m here) (omega arith) in
          let right = before k (suc d) (2 * m + 1) (right_child params k d m here) (omega arith) in
          rw (e, get_or-set_same nodes m value [] room, ← left, ← right) same
      | inr other ↦
          rw (get_or-set_other nodes m r value [] other) (before (suc k) d r at (omega arith))
    ]
