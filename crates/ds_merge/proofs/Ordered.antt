-- Of lists with the same elements at each tie, sorted by one order, there is one.
use Rattle.std.proofs.Common.{◌≡◌, ◌⊎◌, inl, inr, ℕ, zero, suc, ◌<◌, ◌≤◌, ◌+◌, List, [], ◌∷◌, length, Bool, true, false, ◌&&◌, not, cond, refl, sym, ap, ◌∙◌, arith, slice_index_or, filter}
use Rattle.std.specs.List.Sorted.{IsSortedBy, ties}
use Rattle.std.specs.Cmp.{IsStrictWeakOrder}

-- no element is less than one ahead of it
abbrev pub Ahead : {X : Type 0} → (X → X → Bool) → X → List X → Type 0
Ahead lt x [] = Unit {0}
Ahead lt x (y ∷ ys) = (lt y x ≡ false) × Ahead lt x ys

abbrev pub Ascends : {X : Type 0} → (X → X → Bool) → List X → Type 0
Ascends lt [] = Unit {0}
Ascends lt (x ∷ xs) = Ahead lt x xs × Ascends lt xs

pub clash : {b : Bool} → b ≡ false → b ≡ true → ⊥
clash p q = cc

pub ahead_from : {X : Type 0} (lt : X → X → Bool) (x : X) (ys : List X) → ((j : ℕ) (d : X) → j < length ys → lt (slice_index_or ys j d) x ≡ false) → Ahead lt x ys
ahead_from lt x [] f = tt
ahead_from lt x (y ∷ ys) f = (f 0 y (omega arith), ahead_from lt x ys (λ j d lt1. f (suc j) d (omega (arith, lt1))))

pub ascends_from : {X : Type 0} (lt : X → X → Bool) (xs : List X) → ((i j : ℕ) (d : X) → i ≤ j → j < length xs → lt (slice_index_or xs j d) (slice_index_or xs i d) ≡ false) → Ascends lt xs
ascends_from lt [] f = tt
ascends_from lt (x ∷ xs) f =
    (ahead_from lt x xs (λ j d below. f 0 (suc j) d (omega arith) (omega (arith, below))), ascends_from lt xs (λ i j d le below. f (suc i) (suc j) d (omega (arith, le)) (omega (arith, below))))

ahead_at : {X : Type 0} (lt : X → X → Bool) (x : X) (ys : List X) → Ahead lt x ys → (j : ℕ) (d : X) → j < length ys → lt (slice_index_or ys j d) x ≡ false
ahead_at lt x [] a j d below = absurd (omega (arith, below))
ahead_at lt x (y ∷ ys) a zero d below = a.0
ahead_at lt x (y ∷ ys) a (suc j) d below = ahead_at lt x ys a.1 j d (omega (arith, below))

far : {X : Type 0} (lt : X → X → Bool) (xs : List X) → Ascends lt xs → (i j : ℕ) (d : X) → i < j → j < length xs → lt (slice_index_or xs j d) (slice_index_or xs i d) ≡ false
far lt [] a i j d under below = absurd (omega (arith, below))
far lt (x ∷ xs) a zero zero d under below = absurd (omega (arith, under))
far lt (x ∷ xs) a zero (suc j) d under below = ahead_at lt x xs a.0 j d (omega (arith, below))
far lt (x ∷ xs) a (suc i) zero d under below = absurd (omega (arith, under))
far lt (x ∷ xs) a (suc i) (suc j) d under below = far lt xs a.1 i j d (omega (arith, under)) (omega (arith, below))

pub sorted_from : {X : Type 0} (lt : X → X → Bool) (xs : List X) → Ascends lt xs → IsSortedBy lt xs
sorted_from lt xs a = λ k d low below. far lt xs a k (k + 1) d (omega arith) below

head_or : {X : Type 0} → X → List X → X
head_or d [] = d
head_or d (x ∷ xs) = x

tail : {X : Type 0} → List X → List X
tail [] = []
tail (x ∷ xs) = xs

same_head : {X : Type 0} (x y : X) (xs ys : List X) → x ∷ xs ≡ y ∷ ys → x ≡ y
unfolding head_or
same_head x y xs ys e = ap (head_or x) e

same_tail : {X : Type 0} (x y : X) (xs ys : List X) → x ∷ xs ≡ y ∷ ys → xs ≡ ys
unfolding tail
same_tail x y xs ys e = ap tail e

is_nil : {X : Type 0} → List X → Bool
is_nil [] = true
is_nil (x ∷ xs) = false

not_nil : {X : Type 0} (x : X) (xs : List X) → x ∷ xs ≡ [] → ⊥
unfolding is_nil
not_nil x xs e = absurd (clash (sym (ap is_nil e)) refl)

itself_by : (b : Bool) → (b ≡ true → b ≡ false) → b ≡ false
itself_by true f = f refl
itself_by false f = refl

pub neither_by : (a b : Bool) → (not a && not b) ≡ true → (a ≡ false) × (b ≡ false)
neither_by false false e = (refl, refl)
neither_by false true e = cc
neither_by true b e = cc

one_by : (a b : Bool) → (not a && not b) ≡ false → (a ≡ true) ⊎ (b ≡ true)
one_by true b e = inl refl
one_by false true e = inr refl
one_by false false e = cc

is_false : (b : Bool) → (b ≡ true → ⊥) → b ≡ false
is_false true n = absurd (n refl)
is_false false n = refl

module _ {X : Type 0} (lt : X → X → Bool) (o : IsStrictWeakOrder lt) where
  itself : (x : X) → lt x x ≡ false
  itself x = itself_by (lt x x) (o.one_way x x)

  ties_itself : (x : X) → ties lt x x ≡ true
  ties_itself x = λ i. not (itself x i) && not (itself x i)

  ties_parts : (x y : X) → ties lt x y ≡ true → (lt x y ≡ false) × (lt y x ≡ false)
  ties_parts x y e = neither_by (lt x y) (lt y x) e

  not_ties : (x y : X) → ties lt x y ≡ false → (lt x y ≡ true) ⊎ (lt y x ≡ true)
  not_ties x y e = one_by (lt x y) (lt y x) e

  -- what is below the head of a list in order ties with none of it
  none_tie : (x y : X) (ys : List X) → lt x y ≡ true → Ahead lt y ys → filter (ties lt x) ys ≡ []
  none_tie x y [] under a = refl
  none_tie x y (w ∷ ws) under a =
      let no : ties lt x w ≡ false = is_false (ties lt x w) (λ t. clash (o.chain x w y (ties_parts x w t).0 a.0) under) in
      (λ i. cond (no i) (w ∷ filter (ties lt x) ws) (filter (ties lt x) ws)) ∙ none_tie x y ws under a.1

  kept_head : (x : X) (xs : List X) → filter (ties lt x) (x ∷ xs) ≡ x ∷ filter (ties lt x) xs
  kept_head x xs = λ i. cond (ties_itself x i) (x ∷ filter (ties lt x) xs) (filter (ties lt x) xs)

  cannot : (x y : X) (xs ys : List X) → lt x y ≡ true → Ahead lt y ys → filter (ties lt x) (x ∷ xs) ≡ filter (ties lt x) (y ∷ ys) → ⊥
  cannot x y xs ys under a e =
      let no : ties lt x y ≡ false = is_false (ties lt x y) (λ t. clash (ties_parts x y t).0 under) in
      let none : filter (ties lt x) (y ∷ ys) ≡ [] = (λ i. cond (no i) (y ∷ filter (ties lt x) ys) (filter (ties lt x) ys)) ∙ none_tie x y ys under a in
      not_nil x (filter (ties lt x) xs) (sym (kept_head x xs) ∙ e ∙ none)

  rest_same : (b : Bool) (x y : X) (us vs : List X) → cond b (x ∷ us) us ≡ cond b (y ∷ vs) vs → us ≡ vs
  rest_same true x y us vs e = same_tail x y us vs e
  rest_same false x y us vs e = e

  pub one_list : (xs ys : List X) → Ascends lt xs → Ascends lt ys → ((x : X) → filter (ties lt x) xs ≡ filter (ties lt x) ys) → xs ≡ ys
  one_list [] [] a b same = refl
  one_list [] (y ∷ ys) a b same = absurd (not_nil y (filter (ties lt y) ys) (sym (kept_head y ys) ∙ sym (same y)))
  one_list (x ∷ xs) [] a b same = absurd (not_nil x (filter (ties lt x) xs) (sym (kept_head x xs) ∙ same x))
  one_list (x ∷ xs) (y ∷ ys) a b same = by (ties lt x y) refl (one_list xs ys a.1 b.1)
    where
      rests : x ≡ y → (z : X) → filter (ties lt z) xs ≡ filter (ties lt z) ys
      rests e z = rest_same (ties lt z x) x y (filter (ties lt z) xs) (filter (ties lt z) ys) (same z ∙ (λ i. cond (ties lt z (sym e i)) (y ∷ filter (ties lt z) ys) (filter (ties lt z) ys)))

      differ : (lt x y ≡ true) ⊎ (lt y x ≡ true) → ⊥
      differ (inl u) = cannot x y xs ys u b.0 (same x)
      differ (inr u) = cannot y x ys xs u a.0 (sym (same y))

      by : (t : Bool) → ties lt x y ≡ t → (((z : X) → filter (ties lt z) xs ≡ filter (ties lt z) ys) → xs ≡ ys) → x ∷ xs ≡ y ∷ ys
      by false t rec = absurd (differ (not_ties x y t))
      by true t rec =
          let heads : x ≡ y = same_head x y (filter (ties lt x) xs) (filter (ties lt x) ys) (sym (kept_head x xs) ∙ same x ∙ (λ i. cond (t i) (y ∷ filter (ties lt x) ys) (filter (ties lt x) ys))) in
          let rest : xs ≡ ys = rec (rests heads) in
          (λ i. heads i ∷ rest i)
