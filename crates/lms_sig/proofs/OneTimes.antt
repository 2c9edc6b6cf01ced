-- The one-time key that follows from a one-time signature is the signer's.
use Rattle.std.proofs.Common.{◌≡◌, ℕ, zero, suc, ◌+◌, ◌-◌, ◌*◌, ◌<◌, ◌≤◌, inl, inr, List, ◌++◌, length, drop, refl, sym, arith, length-append}
use Rattle.std.proofs.lemmas.Bool.{cases_eq}
use Rattle.std.proofs.lemmas.List.{drop-append-le, drop_at, length-drop, take-append-le, take_all}
use Rattle.lms_sig.specs.OneTime.{C, K, Kc, Q, chain_end, digit, ots_signature, x, y, z}
use Rattle.lms_sig.specs.Parameters.{chain_length, digit_count, ots_code}
use Rattle.lms_sig.specs.Strings.{coef, joined, part, u32str}
use Rattle.lms_sig.specs.declared.params.OtsType.{OtsType}
use Rattle.lms_sig.specs.declared.params.OtsType.TheVariants.{W4, W8}
use Rattle.lms_sig.proofs.Chains.{steps-add}
use Rattle.lms_sig.proofs.Lengths.{length-C, length-joined, length-u32str, length-y}
use Rattle.lms_sig.proofs.Words.{part_at}

-- no digit is above the number of a chain's steps
pub digit-bound : (t : OtsType) (Q : List ℕ) (i : ℕ) → digit t Q i ≤ chain_length t
unfolding coef digit
digit-bound W4 Q i = omega arith
digit-bound W8 Q i = omega arith

-- the i-th of the values that were joined
pub part-joined : (f : ℕ → List ℕ) (n i : ℕ) → ((k : ℕ) → length (f k) ≡ 32) → i < n → part (joined f n) (32 * i) 32 ≡ f i
unfolding joined
part-joined f zero i known below = absurd (omega arith)
part-joined f (suc n) i known below =
    let size = length-joined f n known in
    elim (cases_eq i n) [
      | inl e ↦ rw (e, drop_at (joined f n) (f n) (32 * n) size) (take_all 32 (f n) (omega (arith, known n)))
      | inr other ↦
          let inside : i < n = omega arith in
          let room : 32 * i ≤ length (joined f n) = omega arith in
          let enough : 32 ≤ length (drop (32 * i) (joined f n)) = omega (arith, length-drop (32 * i) (joined f n)) in
          rw (drop-append-le (32 * i) (joined f n) (f n) room, take-append-le 32 (drop (32 * i) (joined f n)) (f n) enough)
          (part-joined f n i known inside)
    ]

-- joins of the same values are the same
pub joined-same : (f g : ℕ → List ℕ) (n : ℕ) → ((i : ℕ) → i < n → f i ≡ g i) → joined f n ≡ joined g n
unfolding joined
joined-same f g zero same = refl
joined-same f g (suc n) same =
    rw (joined-same f g n (λ i below. same i (omega arith)), same n (omega arith)) refl

-- a chain that goes on from a signature's value ends where the whole chain ends
pub z-is : (t : OtsType) (SEED I : List ℕ) (q : ℕ) (Q : List ℕ) (i : ℕ) → i < digit_count t →
    z t I q Q (joined (y t SEED I q Q) (digit_count t)) i ≡ chain_end t SEED I q i
unfolding chain_end y z
z-is t SEED I q Q i below =
    let whole : digit t Q i + (chain_length t - digit t Q i) ≡ chain_length t = omega (arith, digit-bound t Q i) in
    let start : 0 + digit t Q i ≡ digit t Q i = omega arith in
    let run = steps-add I q i 0 (digit t Q i) (chain_length t - digit t Q i) (x SEED I q i) in
    rw (part-joined (y t SEED I q Q) (digit_count t) i (length-y t SEED I q Q) below) (sym (rw (whole, start) at run))

pub Kc-is : (t : OtsType) (SEED I : List ℕ) (q : ℕ) (message : List ℕ) →
    Kc t I q message (ots_signature t SEED I q message) ≡ K t SEED I q
unfolding K Kc ots_signature
Kc-is t SEED I q message =
    let hash = Q I q (C SEED I q) message in
    let values = joined (y t SEED I q hash) (digit_count t) in
    let front : length (u32str (ots_code t) ++ C SEED I q) ≡ 36 =
    omega (arith, length-append (u32str (ots_code t)) (C SEED I q), length-u32str (ots_code t), length-C SEED I q) in
    rw (
      part_at (u32str (ots_code t)) (C SEED I q) values 4 32 (length-u32str (ots_code t)) (length-C SEED I q),
      drop_at (u32str (ots_code t) ++ C SEED I q) values 36 front,
      joined-same (z t I q hash values) (chain_end t SEED I q) (digit_count t) (z-is t SEED I q hash),
    ) refl
