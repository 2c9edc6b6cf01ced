-- The lines of an input, one after another.
use Rattle.std.proofs.Common.{◌≡◌, ℕ, suc, ◌+◌, ◌<◌, ◌==◌, Bool, true, false, cond, List, [], ◌∷◌, length, drop, Option, Some, None, refl, ap, ◌∙◌, arith}
use Rattle.std.specs.Prelude.{nat_lt}
use Rattle.std.proofs.lemmas.Bool.Decides.{nat_tests}
use Rattle.std.specs.List.{position_or_len}
use Rattle.ds_commands.specs.Lines.{cut, cut_at}
use Rattle.ds_commands.specs.Chains.{lines_of, before_line}

abbrev pub rest_of : Option (List ℕ) → List ℕ
rest_of None = []
rest_of (Some rest) = rest

-- where a line feed stands first
cut_feed : (bs : List ℕ) (b : ℕ) → (b == 10) ≡ true → cut (b ∷ bs) ≡ ([], Some bs)
cut_feed bs b e = let some : nat_lt 0 (suc (length bs)) ≡ true = grind (arith, nat_tests) in rw e (rw some refl)

both : (p l : ℕ) → nat_lt (suc p) (suc l) ≡ nat_lt p l
both p l = grind (arith, nat_tests)

-- one place further on, in a list with one byte more
further : (p : ℕ) (b : ℕ) (bs : List ℕ) → drop (suc p + 1) (b ∷ bs) ≡ drop (p + 1) bs
further p b bs = let e : suc p + 1 ≡ suc (p + 1) = omega arith in rw e refl

shifted : (t : Bool) (p : ℕ) (b : ℕ) (bs : List ℕ) → cut_at (cond t (Some (suc p)) None) (b ∷ bs) ≡ (b ∷ (cut_at (cond t (Some p) None) bs).0, (cut_at (cond t (Some p) None) bs).1)
shifted true p b bs = rw (further p b bs) refl
shifted false p b bs = refl

-- and where another byte does
cut_byte : (bs : List ℕ) (b : ℕ) → (b == 10) ≡ false → cut (b ∷ bs) ≡ (b ∷ (cut bs).0, (cut bs).1)
cut_byte bs b e =
    let p = position_or_len (λ byte. byte == 10) bs in
    let one : 1 + p ≡ suc p = omega arith in
    rw e (rw one (ap (λ (t : Bool). cut_at (cond t (Some (suc p)) None) (b ∷ bs)) (both p (length bs)) ∙ shifted (nat_lt p (length bs)) p b bs))

-- a byte before the lines of what follows it
before : (b : ℕ) (bs : List ℕ) → before_line b (lines_of bs) ≡ (b ∷ (cut bs).0) ∷ lines_of (rest_of (cut bs).1)
    → (t : Bool) → (b == 10) ≡ t → lines_of (b ∷ bs) ≡ (cut (b ∷ bs)).0 ∷ lines_of (rest_of (cut (b ∷ bs)).1)
unfolding lines_of
before b bs more true e = rw (cut_feed bs b e) (rw e refl)
before b bs more false e = rw (cut_byte bs b e) (rw e more)

pub lines_first : (bs : List ℕ) (b : ℕ) → lines_of (b ∷ bs) ≡ (cut (b ∷ bs)).0 ∷ lines_of (rest_of (cut (b ∷ bs)).1)
unfolding lines_of
lines_first [] b = before b [] refl (b == 10) refl
lines_first (c ∷ cs) b = before b (c ∷ cs) (ap (before_line b) (lines_first cs c)) (b == 10) refl

lines_cut : (input : List ℕ) → 0 < length input → lines_of input ≡ (cut input).0 ∷ lines_of (rest_of (cut input).1)
lines_cut [] h = absurd (omega arith)
lines_cut (b ∷ bs) h = lines_first bs b

-- the lines of an input are its first and those of what follows
pub lines_are : (input line : List ℕ) (rest : Option (List ℕ)) → 0 < length input → line ≡ (cut input).0 → rest ≡ (cut input).1 → lines_of input ≡ line ∷ lines_of (rest_of rest)
lines_are input line rest h e f = rw e (rw f (lines_cut input h))
