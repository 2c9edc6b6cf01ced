-- What follows from one call of an object of the outside to several of them.
use Rattle.std.proofs.Common.{◌≡◌, ℕ, ◌≤◌, List, [], ◌++◌, take, Option, Some, None, refl, sym, ap, ◌∙◌, arith, append_assoc, append-nil}
use Rattle.ds_base.specs.Counts.{Rose, Told, Appended, NoneLeft, Took, Wrote}

-- the count didn't fall, and then it rose
pub rose_after : (a b c : ℕ) → a ≤ b → Rose b c → Rose a c
rose_after a b c le rose = omega (arith, le, rose)

-- the count rose, and then it didn't fall
pub rose_before : (a b c : ℕ) → Rose a b → b ≤ c → Rose a c
rose_before a b c rose le = omega (arith, rose, le)

-- a count that can't rise shows that no fault came
pub never_rose : Rose 0 0 → ⊥
never_rose rose = omega (arith, rose)

-- nothing was taken
pub told-nil : (a : Option (List ℕ)) → Told a [] a
told-nil None = refl
told-nil (Some xs) = refl

pub told_same : (a b : Option (List ℕ)) → b ≡ a → Told a [] b
told_same a b same = rw same (told-nil a)

-- two takes are one of both moved lists
pub told-append : (a b c : Option (List ℕ)) (p q : List ℕ) → Told a p b → Told b q c → Told a (p ++ q) c
told-append None None c p q s t = t
told-append None (Some ys) c p q s t = cc
told-append (Some xs) None c p q s t = absurd s
told-append (Some xs) (Some ys) None p q s t = absurd t
told-append (Some xs) (Some ys) (Some zs) p q s t = s ∙ ap (λ l. p ++ l) t ∙ sym (append_assoc p q zs)

-- where nothing is left, all that was told before was taken
pub told_all : (xs p : List ℕ) (b : Option (List ℕ)) → Told (Some xs) p b → NoneLeft b → p ≡ xs
told_all xs p None s none = absurd s
told_all xs p (Some ys) s none = sym (s ∙ ap (λ l. p ++ l) none ∙ append-nil p)

-- nothing was appended
pub appended-nil : (a : Option (List ℕ)) → Appended a [] a
appended-nil None = refl
appended-nil (Some xs) = sym (append-nil xs)

pub appended_same : (a b : Option (List ℕ)) → b ≡ a → Appended a [] b
appended_same a b same = rw same (appended-nil a)

-- two puts are one of both appended lists
pub appended-append : (a b c : Option (List ℕ)) (p q : List ℕ) → Appended a p b → Appended b q c → Appended a (p ++ q) c
appended-append None None c p q s t = t
appended-append None (Some ys) c p q s t = cc
appended-append (Some xs) None c p q s t = absurd s
appended-append (Some xs) (Some ys) None p q s t = absurd t
appended-append (Some xs) (Some ys) (Some zs) p q s t = t ∙ ap (λ l. l ++ q) s ∙ append_assoc xs p q

-- a take after others
pub took_after : (a b c : Option (List ℕ)) (p room : List ℕ) (size n : ℕ) (Ended : Type 0) → Told a p b → Took b c size room n Ended → Told a (p ++ take n room) c
took_after a b c p room size n Ended s t = told-append a b c p (take n room) s t.told

-- a put after others
pub wrote_after : (a b c : Option (List ℕ)) (p piece : List ℕ) (n : ℕ) → Appended a p b → Wrote b c piece n → Appended a (p ++ take n piece) c
wrote_after a b c p piece n s t = appended-append a b c p (take n piece) s t.told
