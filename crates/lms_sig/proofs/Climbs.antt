-- The way up from a node, a step at a time.
use Rattle.std.proofs.Common.{◌≡◌, ℕ, suc, ◌+◌, ◌-◌, ◌*◌, ◌/◌, ◌<◌, List, [], ◌++◌, take, drop, refl, arith}
use Rattle.std.proofs.lemmas.List.{drop-drop}
use Rattle.lms_sig.specs.Merkle.{T, climb, parent, path, sibling}
use Rattle.lms_sig.specs.Strings.{part}
use Rattle.lms_sig.specs.declared.params.Params.{Params}

pub climb-more : (I : List ℕ) (r : ℕ) (tmp siblings : List ℕ) (n m : ℕ) → n ≡ suc m →
    climb I r tmp siblings n ≡ climb I (r / 2) (parent I r tmp (take 32 siblings)) (drop 32 siblings) m
unfolding climb
climb-more I r tmp siblings n m more = rw more refl

-- the next level, where the siblings of i levels are used up
pub climb-step : (I : List ℕ) (r : ℕ) (tmp siblings : List ℕ) (levels i : ℕ) → i < levels →
    climb I r tmp (drop (32 * i) siblings) (levels - i)
    ≡ climb I (r / 2) (parent I r tmp (part siblings (32 * i) 32)) (drop (32 * (i + 1)) siblings) (levels - (i + 1))
climb-step I r tmp siblings levels i below =
    let step = climb-more I r tmp (drop (32 * i) siblings) (levels - i) (levels - (i + 1)) (omega arith) in
    let place : 32 * i + 32 ≡ 32 * (i + 1) = omega arith in
    rw (drop-drop 32 (32 * i) siblings, place) at step

pub climb-none : (I : List ℕ) (r : ℕ) (tmp siblings : List ℕ) (n : ℕ) → n ≡ 0 → climb I r tmp siblings n ≡ tmp
unfolding climb
climb-none I r tmp siblings n none = rw none refl

pub path-step : (params : Params) (SEED I : List ℕ) (k r n m : ℕ) → n ≡ suc m →
    path params SEED I k r n ≡ T params SEED I k (sibling r) ++ path params SEED I (k + 1) (r / 2) m
unfolding path
path-step params SEED I k r n m more =
    let next : k + 1 ≡ suc k = omega arith in
    rw (more, next) refl

pub path-none : (params : Params) (SEED I : List ℕ) (k r n : ℕ) → n ≡ 0 → path params SEED I k r n ≡ []
unfolding path
path-none params SEED I k r n none = rw none refl
