-- What lists contain, what stands at their places after a change, and lists that grow.
use Rattle.std.proofs.Common.{◌≡◌, ◌≢◌, ◌<◌, ◌≤◌, ℕ, zero, suc, Bool, true, false, cond, List, [], ◌∷◌, ◌++◌, Option, Some, None, length, take, drop, map, filter, get_or, slice_get, option_map, Contains, refl, sym, ◌∙◌, ap, subst, ◌⊎◌, inl, inr, arith, append-nil}
use Rattle.ds_model.specs.Lists.{at}
use Rattle.ds_model.proofs.Places.{at_here, at_other, at_each, none_some}

pub mapped : {X : Type 0} (f : X → X) (o : Option X) (y : X) → option_map f o ≡ Some y → (x : X) × (o ≡ Some x) × (y ≡ f x)
mapped f None y e = absurd (none_some y e)
mapped f (Some x) y e = (x, refl, cc)

-- a claim of each thing of a list, after a change at one place
pub all_at : {X : Type 0} (P : ℕ → X → Type 0) (i : ℕ) (f : X → X) (xs : List X) →
    ((j : ℕ) (x : X) → j ≢ i → slice_get xs j ≡ Some x → P j x) → ((x : X) → slice_get xs i ≡ Some x → P i (f x)) →
    (j : ℕ) (x : X) → slice_get (at i f xs) j ≡ Some x → P j x
all_at {X} P i f xs others here = at_each (λ j. (x : X) → slice_get (at i f xs) j ≡ Some x → P j x) i
    (λ x e. let m : (z : X) × (slice_get xs i ≡ Some z) × (x ≡ f z) = mapped f (slice_get xs i) x (sym (at_here i f xs) ∙ e) in subst (P i) (sym m.2) (here m.0 m.1))
    (λ j n x e. others j x n (sym (at_other i j f xs n) ∙ e))

-- what a list contains

module _ {X : Type 0} where
  pub in_none : (y : X) → Contains [] y → ⊥
  in_none y c = let lt : c.0 < 0 = c.1 in omega arith

  pub in_head : (x : X) (xs : List X) → Contains (x ∷ xs) x
  in_head x xs = (zero, omega arith, refl)

  pub in_tail : (x : X) (xs : List X) (y : X) → Contains xs y → Contains (x ∷ xs) y
  in_tail x xs y c = (suc c.0, omega (arith, c.1), c.2)

  pub in_cases : (x : X) (xs : List X) (y : X) → Contains (x ∷ xs) y → (x ≡ y) ⊎ Contains xs y
  in_cases x xs y c = by_place c.0 c.1 c.2
    where
      by_place : (k : ℕ) → k < suc (length xs) → get_or (x ∷ xs) k y ≡ y → (x ≡ y) ⊎ Contains xs y
      by_place zero lt is = inl is
      by_place (suc k) lt is = inr (k, omega arith, is)

  pub in_empty : (xs : List X) (y : X) → xs ≡ [] → Contains xs y → ⊥
  in_empty xs y e c = in_none y (subst (λ zs. Contains zs y) e c)

  pub in_take : (n : ℕ) (xs : List X) (y : X) → Contains (take n xs) y → Contains xs y
  in_take zero xs y c = absurd (in_none y c)
  in_take (suc n) [] y c = c
  in_take (suc n) (x ∷ xs) y c = go (in_take n xs y) (in_cases x (take n xs) y c)
    where
      go : (Contains (take n xs) y → Contains xs y) → (x ≡ y) ⊎ Contains (take n xs) y → Contains (x ∷ xs) y
      go more (inl e) = subst (Contains (x ∷ xs)) e (in_head x xs)
      go more (inr t) = in_tail x xs y (more t)

  pub in_drop : (n : ℕ) (xs : List X) (y : X) → Contains (drop n xs) y → Contains xs y
  in_drop zero xs y c = c
  in_drop (suc n) [] y c = c
  in_drop (suc n) (x ∷ xs) y c = in_tail x xs y (in_drop n xs y c)

  pub in_filter : (test : X → Bool) (xs : List X) (y : X) → Contains (filter test xs) y → Contains xs y × (test y ≡ true)
  in_filter test [] y c = absurd (in_none y c)
  in_filter test (x ∷ xs) y c = go (test x) refl (in_filter test xs y) c
    where
      first : test x ≡ true → (Contains (filter test xs) y → Contains xs y × (test y ≡ true)) → (x ≡ y) ⊎ Contains (filter test xs) y → Contains (x ∷ xs) y × (test y ≡ true)
      first e more (inl same) = (subst (Contains (x ∷ xs)) same (in_head x xs), subst (λ z. test z ≡ true) same e)
      first e more (inr t) = (in_tail x xs y (more t).0, (more t).1)

      go : (b : Bool) → test x ≡ b → (Contains (filter test xs) y → Contains xs y × (test y ≡ true)) → Contains (cond b (x ∷ filter test xs) (filter test xs)) y → Contains (x ∷ xs) y × (test y ≡ true)
      go true e more d = first e more (in_cases x (filter test xs) y d)
      go false e more d = (in_tail x xs y (more d).0, (more d).1)

  pub filter_in : (test : X → Bool) (xs : List X) (y : X) → Contains xs y → test y ≡ true → Contains (filter test xs) y
  filter_in test [] y c e = absurd (in_none y c)
  filter_in test (x ∷ xs) y c e = go (test x) refl (λ t. filter_in test xs y t e) (in_cases x xs y c)
    where
      go : (b : Bool) → test x ≡ b → (Contains xs y → Contains (filter test xs) y) → (x ≡ y) ⊎ Contains xs y → Contains (cond b (x ∷ filter test xs) (filter test xs)) y
      go true is more (inl same) = subst (Contains (x ∷ filter test xs)) same (in_head x (filter test xs))
      go true is more (inr t) = in_tail x (filter test xs) y (more t)
      go false is more (inl same) = absurd (let no : test y ≡ false = ap test (sym same) ∙ is in grind arith)
      go false is more (inr t) = more t

  pub in_at : (xs : List X) (j : ℕ) (y : X) → slice_get xs j ≡ Some y → Contains xs y
  in_at [] j y e = absurd (none_some y e)
  in_at (x ∷ xs) zero y e = let same : x ≡ y = cc in subst (Contains (x ∷ xs)) same (in_head x xs)
  in_at (x ∷ xs) (suc j) y e = in_tail x xs y (in_at xs j y e)

pub in_map : {X Y : Type 0} (f : X → Y) (xs : List X) (y : Y) → Contains (map f xs) y → (x : X) × Contains xs x × (f x ≡ y)
in_map f [] y c = absurd (in_none y c)
in_map {X} {Y} f (x ∷ xs) y c = go (in_map f xs y) (in_cases (f x) (map f xs) y c)
  where
    go : (Contains (map f xs) y → (z : X) × Contains xs z × (f z ≡ y)) → (f x ≡ y) ⊎ Contains (map f xs) y → (z : X) × Contains (x ∷ xs) z × (f z ≡ y)
    go more (inl e) = (x, in_head x xs, e)
    go more (inr t) = let m : (z : X) × Contains xs z × (f z ≡ y) = more t in (m.0, in_tail x xs m.0 m.1, m.2)

pub map_in : {X Y : Type 0} (f : X → Y) (xs : List X) (x : X) → Contains xs x → Contains (map f xs) (f x)
map_in f [] x c = absurd (in_none x c)
map_in {X} {Y} f (z ∷ xs) x c = go (map_in f xs x) (in_cases z xs x c)
  where
    go : (Contains xs x → Contains (map f xs) (f x)) → (z ≡ x) ⊎ Contains xs x → Contains (f z ∷ map f xs) (f x)
    go more (inl same) = subst (λ u. Contains (f z ∷ map f xs) (f u)) same (in_head (f z) (map f xs))
    go more (inr t) = in_tail (f z) (map f xs) (f x) (more t)

-- lists that grow

abbrev pub Grows : List ℕ → List ℕ → Type 0
Grows xs ys = (more : List ℕ) × (ys ≡ xs ++ more)

pub grows_self : (xs : List ℕ) → Grows xs xs
grows_self xs = ([], sym (append-nil xs))

pub grows_same : (xs ys : List ℕ) → ys ≡ xs → Grows xs ys
grows_same xs ys e = subst (Grows xs) (sym e) (grows_self xs)

grows_cons : (x : ℕ) (xs ys : List ℕ) → Grows xs ys → Grows (x ∷ xs) (x ∷ ys)
grows_cons x xs ys g = (g.0, ap (λ zs. x ∷ zs) g.1)

-- the first so many of a list that grows
pub take_grows : (n : ℕ) (xs ys : List ℕ) → Grows xs ys → Grows (take n xs) (take n ys)
take_grows n xs ys g = subst (λ zs. Grows (take n xs) (take n zs)) (sym g.1) (go n xs g.0)
  where
    go : (n : ℕ) (xs more : List ℕ) → Grows (take n xs) (take n (xs ++ more))
    go zero xs more = grows_self []
    go (suc n) [] more = (take (suc n) more, refl)
    go (suc n) (x ∷ xs) more = grows_cons x (take n xs) (take n (xs ++ more)) (go n xs more)

-- and more of it
pub take_up : (n m : ℕ) (xs : List ℕ) → (n ≤ m) ⊎ (length xs ≤ m) → Grows (take n xs) (take m xs)
take_up zero m xs le = (take m xs, refl)
take_up (suc n) m [] le = go m
  where
    go : (m : ℕ) → Grows (take (suc n) []) (take m [])
    go zero = grows_self []
    go (suc m) = grows_self []
take_up (suc n) zero (x ∷ xs) (inl le) = absurd (omega arith)
take_up (suc n) zero (x ∷ xs) (inr le) = absurd (omega arith)
take_up (suc n) (suc m) (x ∷ xs) (inl le) = grows_cons x (take n xs) (take m xs) (take_up n m xs (inl (omega arith)))
take_up (suc n) (suc m) (x ∷ xs) (inr le) = grows_cons x (take n xs) (take m xs) (take_up n m xs (inr (omega arith)))
