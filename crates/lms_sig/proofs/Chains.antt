-- Chains of hashes, a step at a time and a run at a time.
use Rattle.std.proofs.Common.{◌≡◌, ℕ, zero, suc, ◌+◌, List, [], ◌++◌, refl, add-one, append_assoc, append-nil, arith}
use Rattle.lms_sig.specs.Strings.{joined}
use Rattle.lms_sig.specs.OneTime.{steps}

-- one run after another
pub steps-add : (I : List ℕ) (q i j m n : ℕ) (tmp : List ℕ) →
    steps I q i j (m + n) tmp ≡ steps I q i (j + m) n (steps I q i j m tmp)
unfolding steps
steps-add I q i j m zero tmp =
    let none : m + 0 ≡ m = omega arith in
    rw none refl
steps-add I q i j m (suc n) tmp =
    let more : m + suc n ≡ suc (m + n) = omega arith in
    let place : j + (m + n) ≡ j + m + n = omega arith in
    rw (more, place, steps-add I q i j m n tmp) refl

-- the empty join, and one more part
pub joined-none : (f : ℕ → List ℕ) → joined f 0 ≡ []
unfolding joined
joined-none f = refl

pub joined-more : (f : ℕ → List ℕ) (n : ℕ) → joined f (n + 1) ≡ joined f n ++ f n
unfolding joined
joined-more f n = rw add-one refl

-- what is fed or appended: nothing yet, and one part more
pub joined-starts : (P : List ℕ → Type 0) (front : List ℕ) (f : ℕ → List ℕ) → P front → P (front ++ joined f 0)
joined-starts P front f known = rw (joined-none f, append-nil front) known

pub joined-grows : (P : List ℕ → Type 0) (front : List ℕ) (f : ℕ → List ℕ) (n : ℕ) (piece : List ℕ) → piece ≡ f n →
    P (front ++ joined f n ++ piece) → P (front ++ joined f (n + 1))
joined-grows P front f n piece same known =
    rw (joined-more f n, ← same, ← append_assoc front (joined f n) piece) known
