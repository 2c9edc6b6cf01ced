-- The root that follows from a signature is the signer's.
use Rattle.std.proofs.Common.{◌≡◌, ℕ, zero, suc, ◌+◌, ◌-◌, ◌*◌, ◌/◌, ◌^◌, ◌<◌, ◌≤◌, inl, inr, List, ◌++◌, length, refl, ◌∙◌, arith, append_assoc, length-append}
use Rattle.std.proofs.lemmas.List.{drop_at, take_at}
use Rattle.lms_sig.specs.Merkle.{T, climb, leaf, parent, path, recomputed_root, sibling, signature}
use Rattle.lms_sig.specs.OneTime.{K, ots_signature}
use Rattle.lms_sig.specs.Parameters.{height, leaf_count, lms_code, ots_length}
use Rattle.lms_sig.specs.Strings.{part, u32_at, u32str}
use Rattle.lms_sig.specs.declared.params.Params.{Params}
use Rattle.lms_sig.proofs.Climbs.{climb-more, climb-none, path-step}
use Rattle.lms_sig.proofs.Lengths.{length-T, length-ots_signature, length-u32str}
use Rattle.lms_sig.proofs.OneTimes.{Kc-is}
use Rattle.lms_sig.proofs.Trees.{even_or_odd, pow-double, sibling_even, sibling_odd}
use Rattle.lms_sig.proofs.Words.{four_parts, part_at, u32_at-u32str}

-- a node's parent, from the node and its sibling
pub parent-T : (params : Params) (SEED I : List ℕ) (k r : ℕ) →
    parent I r (T params SEED I k r) (T params SEED I k (sibling r)) ≡ T params SEED I (suc k) (r / 2)
unfolding T
parent-T params SEED I k r =
    elim (even_or_odd r) [
      | inl even ↦
          let left : 2 * (r / 2) ≡ r = omega arith in
          rw (sibling_even r even, even, left) refl
      | inr odd ↦
          let left : 2 * (r / 2) ≡ r - 1 = omega arith in
          let right : r - 1 + 1 ≡ r = omega arith in
          rw (sibling_odd r odd, odd, left, right) refl
    ]

pub T-leaf : (params : Params) (SEED I : List ℕ) (r : ℕ) →
    T params SEED I 0 r ≡ leaf I r (K params.ots SEED I (r - leaf_count params.lms))
unfolding T
T-leaf params SEED I r = refl

-- a number halved so many times
abbrev pub halves : ℕ → ℕ → ℕ
halves r zero = r
halves r (suc n) = halves (r / 2) n

pub halves-root : (n r : ℕ) → 2 ^ n ≤ r → r < 2 * 2 ^ n → halves r n ≡ 1
halves-root zero r from below = omega arith
halves-root (suc n) r from below =
    halves-root n (r / 2) (omega (arith, pow-double n)) (omega (arith, pow-double n))

-- the path of the tree leads to the node above
pub climb-path : (params : Params) (SEED I : List ℕ) (n k r : ℕ) →
    climb I r (T params SEED I k r) (path params SEED I k r n) n ≡ T params SEED I (k + n) (halves r n)
climb-path params SEED I zero k r =
    let none : k + 0 ≡ k = omega arith in
    rw none (climb-none I r (T params SEED I k r) (path params SEED I k r 0) 0 refl)
climb-path params SEED I (suc n) k r =
    let next : k + suc n ≡ k + 1 + n = omega arith in
    let up : k + 1 ≡ suc k = omega arith in
    let value = T params SEED I k (sibling r) in
    let rest = path params SEED I (k + 1) (r / 2) n in
    let size = length-T params SEED I k (sibling r) in
    let split = path-step params SEED I k r (suc n) n refl in
    let one = climb-more I r (T params SEED I k r) (value ++ rest) (suc n) n refl in
    let above : parent I r (T params SEED I k r) value ≡ T params SEED I (k + 1) (r / 2) =
    rw up (parent-T params SEED I k r) in
    rw (split, next)
    ((rw (take_at value rest 32 size, drop_at value rest 32 size, above) at one) ∙ climb-path params SEED I n (k + 1) (r / 2))

-- the signer's root
pub recomputed_root-is : (params : Params) (SEED I : List ℕ) (q : ℕ) (message : List ℕ) → q < leaf_count params.lms → q < 2 ^ 32 →
    recomputed_root params I message (signature params SEED I q message) ≡ T params SEED I (height params.lms) 1
unfolding recomputed_root signature
recomputed_root-is params SEED I q message below fits =
    let leaves = leaf_count params.lms in
    let number = u32str q in
    let ots = ots_signature params.ots SEED I q message in
    let code = u32str (lms_code params.lms) in
    let way = path params SEED I 0 (leaves + q) (height params.lms) in
    let ots_size = length-ots_signature params.ots SEED I q message in
    let leaf_number : u32_at (number ++ ots ++ code ++ way) 0 ≡ q =
    rw (four_parts number ots code way) (u32_at-u32str q (ots ++ (code ++ way)) fits) in
    let one_time : part (number ++ ots ++ code ++ way) 4 (ots_length params.ots) ≡ ots =
    rw (append_assoc (number ++ ots) code way) (part_at number ots (code ++ way) 4 (ots_length params.ots) (length-u32str q) ots_size) in
    let front : length (number ++ ots ++ code) ≡ 8 + ots_length params.ots =
    omega (arith, length-append (number ++ ots) code, length-append number ots, length-u32str q, length-u32str (lms_code params.lms), ots_size) in
    let here : leaves + q - leaves ≡ q = omega arith in
    let start : leaf I (leaves + q) (K params.ots SEED I q) ≡ T params SEED I 0 (leaves + q) = rw (T-leaf params SEED I (leaves + q), here) refl in
    let height_is : 0 + height params.lms ≡ height params.lms = omega arith in
    let top = halves-root (height params.lms) (leaves + q) (omega arith) (omega arith) in
    rw (
      leaf_number,
      one_time,
      drop_at (number ++ ots ++ code) way (8 + ots_length params.ots) front,
      Kc-is params.ots SEED I q message,
      start,
    )
    (rw (height_is, top) at (climb-path params SEED I (height params.lms) 0 (leaves + q)))
