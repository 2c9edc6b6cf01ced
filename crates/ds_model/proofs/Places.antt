-- What stands at a place after a change at a place.
use Rattle.std.proofs.Common.{◌≡◌, ◌≢◌, ℕ, zero, suc, Bool, true, false, cond, List, [], ◌∷◌, Some, None, slice_get, option_map, refl, sym, ◌∙◌, ap, subst, arith, eqb, eq-eqb, ne_eqb}
use Rattle.std.specs.Prelude.{if◌then◌else◌}
use native.Mathlib.Decide.{ℕ_discrete}
use Rattle.ds_model.specs.Lists.{at}

pub at_here : {X : Type 0} (i : ℕ) (f : X → X) (xs : List X) → slice_get (at i f xs) i ≡ option_map f (slice_get xs i)
at_here i f [] = refl
at_here zero f (x ∷ xs) = refl
at_here (suc i) f (x ∷ xs) = at_here i f xs

pub at_other : {X : Type 0} (i j : ℕ) (f : X → X) (xs : List X) → j ≢ i → slice_get (at i f xs) j ≡ slice_get xs j
at_other i j f [] n = refl
at_other zero zero f (x ∷ xs) n = absurd (n refl)
at_other zero (suc j) f (x ∷ xs) n = refl
at_other (suc i) zero f (x ∷ xs) n = refl
at_other (suc i) (suc j) f (x ∷ xs) n = at_other i j f xs (λ e. n (ap suc e))

-- a claim at each place, from the claim at one place and at the others
pub at_each : (P : ℕ → Type 0) (i : ℕ) → P i → ((j : ℕ) → j ≢ i → P j) → (j : ℕ) → P j
at_each P i here others j = go (ℕ_discrete j i)
  where
    go : Dec (j ≡ i) → P j
    go (yes e) = subst P (sym e) here
    go (no n) = others j n

-- a change that does the same there is the same
pub at_alike : {X : Type 0} (i : ℕ) (f g : X → X) (xs : List X) → ((x : X) → slice_get xs i ≡ Some x → f x ≡ g x) → at i f xs ≡ at i g xs
at_alike i f g [] e = refl
at_alike zero f g (x ∷ xs) e = ap (λ y. y ∷ xs) (e x refl)
at_alike (suc i) f g (x ∷ xs) e = ap (λ ys. x ∷ ys) (at_alike i f g xs e)

-- one that does nothing there is none
pub at_still : {X : Type 0} (i : ℕ) (f : X → X) (xs : List X) → ((x : X) → slice_get xs i ≡ Some x → f x ≡ x) → at i f xs ≡ xs
at_still i f [] e = refl
at_still zero f (x ∷ xs) e = ap (λ y. y ∷ xs) (e x refl)
at_still (suc i) f (x ∷ xs) e = ap (λ ys. x ∷ ys) (at_still i f xs e)

-- a change of a list is seen at its place alone
pub seen_at : {X : Type 0} (i j : ℕ) (f : X → X) (xs : List X) → slice_get (at j f xs) i ≡ (if eqb j i then option_map f (slice_get xs i) else slice_get xs i)
seen_at i j f xs = go (ℕ_discrete j i)
  where
    pick : (b : Bool) → b ≡ true → option_map f (slice_get xs i) ≡ (if b then option_map f (slice_get xs i) else slice_get xs i)
    pick true e = refl
    pick false e = absurd (grind arith)

    skip : (b : Bool) → b ≡ false → slice_get xs i ≡ (if b then option_map f (slice_get xs i) else slice_get xs i)
    skip false e = refl
    skip true e = absurd (grind arith)

    go : Dec (j ≡ i) → slice_get (at j f xs) i ≡ (if eqb j i then option_map f (slice_get xs i) else slice_get xs i)
    go (yes is) = ap (λ k. slice_get (at k f xs) i) is ∙ (at_here i f xs ∙ pick (eqb j i) (eq-eqb j i is))
    go (no n) = at_other j i f xs (λ e. n (sym e)) ∙ skip (eqb j i) (ne_eqb j i n)

pub cond_case : {X : Type 0} (P : X → Type 0) (b : Bool) (x y : X) → (b ≡ true → P x) → (b ≡ false → P y) → P (cond b x y)
cond_case P true x y yes' no' = yes' refl
cond_case P false x y yes' no' = no' refl

pub none_some : {X : Type 0} (x : X) → None ≡ Some x → ⊥
none_some x e = grind arith

pub some_is : {X : Type 0} (x y : X) → Some x ≡ Some y → x ≡ y
some_is x y e = cc
