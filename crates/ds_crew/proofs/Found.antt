-- What passes a test is found.
use Rattle.std.proofs.Common.{◌≡◌, ℕ, zero, suc, ◌+◌, ◌<◌, Bool, true, false, cond, List, [], ◌∷◌, Some, None, length, sym, ap, ◌∙◌, subst, arith}
use Rattle.std.specs.Prelude.{not, nat_lt, position, slice_index_or}
use Rattle.std.specs.List.{prefix_len}
use Rattle.std.proofs.lemmas.Bool.Decides.{nat_tests}

first_less : (n : ℕ) → nat_lt 0 (suc n) ≡ true
first_less n = grind (arith, nat_tests)

both_more : (n m : ℕ) → nat_lt n m ≡ true → nat_lt (1 + n) (suc m) ≡ true
both_more n m e = grind (arith, nat_tests)

-- one that passes a test comes before the end
passes_before : {X : Type 0} (p : X → Bool) (xs : List X) (i : ℕ) (x : X) → i < length xs → slice_index_or xs i x ≡ x → p x ≡ true → nat_lt (prefix_len (λ y. not (p y)) xs) (length xs) ≡ true
passes_before p [] i x within at e = absurd (omega (arith, within))
passes_before p (y ∷ xs) zero x within at e = subst (λ (b : Bool). nat_lt (cond (not b) (1 + prefix_len (λ z. not (p z)) xs) 0) (suc (length xs)) ≡ true) (sym (ap p at ∙ e)) (first_less (length xs))
passes_before p (y ∷ xs) (suc i) x within at e = go (p y) (passes_before p xs i x (omega (arith, within)) at e)
  where
    go : (b : Bool) → nat_lt (prefix_len (λ z. not (p z)) xs) (length xs) ≡ true → nat_lt (cond (not b) (1 + prefix_len (λ z. not (p z)) xs) 0) (suc (length xs)) ≡ true
    go true h = first_less (length xs)
    go false h = both_more (prefix_len (λ z. not (p z)) xs) (length xs) h

pub found : {X : Type 0} (p : X → Bool) (xs : List X) (i : ℕ) (x : X) → i < length xs → slice_index_or xs i x ≡ x → p x ≡ true → (place : ℕ) × (position p xs ≡ Some place)
found p xs i x within at e =
    let place = prefix_len (λ y. not (p y)) xs in
    (place, ap (λ (b : Bool). cond b (Some place) None) (passes_before p xs i x within at e))
