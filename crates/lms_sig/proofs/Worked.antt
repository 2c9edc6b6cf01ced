-- Worked values of the definitions, which compute.
use Rattle.std.proofs.Common.{◌≡◌, ℕ, List, [], ◌∷◌, replicate, refl}
use Rattle.lms_sig.specs.Merkle.{sibling}
use Rattle.lms_sig.specs.OneTime.{Cksm, digit, missing, step, steps}
use Rattle.lms_sig.specs.Parameters.{signature_length}
use Rattle.lms_sig.specs.Strings.{coef, u16str, u32_at, u32str}
use Rattle.lms_sig.specs.declared.params.LmsType.TheVariants.{H5, H10}
use Rattle.lms_sig.specs.declared.params.OtsType.TheVariants.{W4, W8}

-- the examples of the RFC (3.1.3), over the string 0x1234: the last bit of its first byte, and its first digit
pub coef_bit : coef (0x12 ∷ 0x34 ∷ []) 7 1 ≡ 0
unfolding coef
coef_bit = refl

pub coef_digit : coef (0x12 ∷ 0x34 ∷ []) 0 4 ≡ 1
unfolding coef
coef_digit = refl

-- the other digits of that string, and its second byte
pub coef_digits : (coef (0x12 ∷ 0x34 ∷ []) 1 4 ≡ 2) × (coef (0x12 ∷ 0x34 ∷ []) 2 4 ≡ 3) × (coef (0x12 ∷ 0x34 ∷ []) 3 4 ≡ 4)
unfolding coef
coef_digits = (refl, refl, refl)

pub coef_byte : coef (0x12 ∷ 0x34 ∷ []) 1 8 ≡ 0x34
unfolding coef
coef_byte = refl

-- numbers as bytes
pub u32_written : u32str 0x01020304 ≡ 1 ∷ 2 ∷ 3 ∷ 4 ∷ []
unfolding u32str
u32_written = refl

pub u32_read : u32_at (9 ∷ 1 ∷ 2 ∷ 3 ∷ 4 ∷ []) 1 ≡ 0x01020304
unfolding u32_at
u32_read = refl

-- the checksum of a hash of zeros, which misses the most, and of a hash of the byte 255, which misses
-- nothing: 64 * 15 * 2^4, 32 * 255, and 0
pub checksum_zeros_W4 : Cksm W4 (replicate 32 0) ≡ 15360
unfolding Cksm coef missing
checksum_zeros_W4 = refl

pub checksum_zeros_W8 : Cksm W8 (replicate 32 0) ≡ 8160
unfolding Cksm coef missing
checksum_zeros_W8 = refl

pub checksum_full : Cksm W4 (replicate 32 255) ≡ 0
unfolding Cksm coef missing
checksum_full = refl

-- the digits of the checksum 8160 = 0x1fe0, behind those of the hash
pub checksum_digits : (digit W8 (replicate 32 0) 31 ≡ 0) × (digit W8 (replicate 32 0) 32 ≡ 0x1f) × (digit W8 (replicate 32 0) 33 ≡ 0xe0)
unfolding Cksm coef digit missing u16str
checksum_digits = (refl, refl, refl)

-- a chain of three steps from its start, and of two from step 13 on
pub chain_from_start : (I : List ℕ) (q i : ℕ) (tmp : List ℕ) →
    steps I q i 0 3 tmp ≡ step I q i 2 (step I q i 1 (step I q i 0 tmp))
unfolding steps
chain_from_start I q i tmp = refl

pub chain_to_end : (I : List ℕ) (q i : ℕ) (tmp : List ℕ) → steps I q i 13 2 tmp ≡ step I q i 14 (step I q i 13 tmp)
unfolding steps
chain_to_end I q i tmp = refl

-- the lengths of signatures
pub lengths : (signature_length (record { lms = H5; ots = W4 }) ≡ 2348) × (signature_length (record { lms = H5; ots = W8 }) ≡ 1292)
    × (signature_length (record { lms = H10; ots = W4 }) ≡ 2508) × (signature_length (record { lms = H10; ots = W8 }) ≡ 1452)
lengths = (refl, refl, refl, refl)

-- nodes 34 and 35 are siblings
pub siblings : (sibling 34 ≡ 35) × (sibling 35 ≡ 34)
siblings = (refl, refl)
