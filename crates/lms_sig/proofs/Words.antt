-- Numbers and parts read from byte strings.
use Rattle.std.proofs.Common.{◌≡◌, ℕ, ◌+◌, ◌^◌, ◌<◌, List, ◌++◌, length, refl, arith, append_assoc}
use Rattle.std.proofs.lemmas.List.{drop_at, get_or-append-add, take_at}
use Rattle.std.proofs.lemmas.Nat.{from_be_bytes-to_be_bytes_4}
use Rattle.lms_sig.specs.Strings.{part, u32_at, u32str}

-- a number is read as it was written
pub u32_at-u32str : (n : ℕ) (rest : List ℕ) → n < 2 ^ 32 → u32_at (u32str n ++ rest) 0 ≡ n
unfolding u32_at u32str
u32_at-u32str n rest fits = from_be_bytes-to_be_bytes_4 n fits

-- a number behind other bytes
pub u32_at-append : (front rest : List ℕ) (i : ℕ) → length front ≡ i → u32_at (front ++ rest) i ≡ u32_at rest 0
unfolding u32_at
u32_at-append front rest i same =
    let none : i ≡ length front + 0 = omega arith in
    let one : i + 1 ≡ length front + 1 = omega arith in
    let two : i + 2 ≡ length front + 2 = omega arith in
    let three : i + 3 ≡ length front + 3 = omega arith in
    rw (
      one,
      two,
      three,
      none,
      get_or-append-add front rest 0 0,
      get_or-append-add front rest 1 0,
      get_or-append-add front rest 2 0,
      get_or-append-add front rest 3 0,
    ) refl

-- the part between two others
pub part_at : (a b c : List ℕ) (i n : ℕ) → length a ≡ i → length b ≡ n → part (a ++ b ++ c) i n ≡ b
part_at a b c i n before here = rw (append_assoc a b c, drop_at a (b ++ c) i before) (take_at b c n here)

-- four parts, the first in front
pub four_parts : (a b c d : List ℕ) → a ++ b ++ c ++ d ≡ a ++ (b ++ (c ++ d))
four_parts a b c d = simp append_assoc
