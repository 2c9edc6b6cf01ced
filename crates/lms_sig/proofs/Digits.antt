-- Digits of byte strings, as the code reads them.
use Rattle.std.proofs.Common.{◌≡◌, ℕ, zero, suc, ◌+◌, ◌-◌, ◌*◌, ◌/◌, ◌%◌, ◌<◌, ◌≤◌, List, get_or, refl, add-one, arith}
use Rattle.lms_sig.specs.OneTime.{missing}
use Rattle.lms_sig.specs.Parameters.{chain_length, width}
use Rattle.lms_sig.specs.declared.params.OtsType.{OtsType}
use Rattle.lms_sig.specs.declared.params.OtsType.TheVariants.{W4, W8}
use Rattle.lms_sig.specs.Strings.{coef}

pub coef_high : (S : List ℕ) (i : ℕ) → i % 2 ≡ 0 → get_or S (i / 2) 0 < 256 →
    get_or S (i / 2) 0 / 16 ≡ coef S i 4
unfolding coef
coef_high S i even byte =
    let place : i * 4 / 8 ≡ i / 2 = omega arith in
    rw (place, even) (omega arith)

pub coef_low : (S : List ℕ) (i : ℕ) → i % 2 ≡ 1 → get_or S (i / 2) 0 % 16 ≡ coef S i 4
unfolding coef
coef_low S i odd =
    let place : i * 4 / 8 ≡ i / 2 = omega arith in
    rw (place, odd) (omega arith)

pub coef_byte : (S : List ℕ) (i : ℕ) → get_or S i 0 < 256 → get_or S i 0 ≡ coef S i 8
unfolding coef
coef_byte S i byte =
    let place : i * 8 / 8 ≡ i = omega arith in
    let only : i % 1 ≡ 0 = omega arith in
    rw (place, only) (omega arith)

-- the checksum's sum is small
pub missing-bound : (t : OtsType) (S : List ℕ) (n top : ℕ) → chain_length t ≤ top → missing t S n ≤ top * n
unfolding missing
missing-bound t S zero top le = omega arith
missing-bound t S (suc n) top le = omega (arith, missing-bound t S n top le)

pub chain_length-bound : (t : OtsType) → chain_length t ≤ 255
chain_length-bound W4 = omega arith
chain_length-bound W8 = omega arith

pub missing-more : (t : OtsType) (S : List ℕ) (n : ℕ) →
    missing t S (n + 1) ≡ missing t S n + (chain_length t - coef S n (width t))
unfolding missing
missing-more t S n = rw add-one refl

pub hash_digits-bound : (t : OtsType) → 256 / width t ≤ 64
hash_digits-bound W4 = omega arith
hash_digits-bound W8 = omega arith
