-- Lists by places: what `each` and `joined` have at a place, and what a test of a whole list says of one.
use Rattle.std.proofs.Common.{◌≡◌, ℕ, zero, suc, ◌+◌, ◌<◌, Bool, true, false, List, [], ◌∷◌, ◌++◌, length, map, get_or, Option, Some, None, slice_get, option_map, refl, sym, ◌∙◌, ap, subst, ◌⊎◌, inl, inr, arith}
use Rattle.std.specs.Prelude.{not}
use Rattle.std.specs.List.{list_all, flat_map, All}
use Rattle.std.proofs.lemmas.Bool.{and_parts, or_parts, not-true, cases_order}
use Rattle.std.proofs.lemmas.Option.{none-some, same_Some, slice_get-map, slice_get_within, get_or_from_slice_get}
use Rattle.std.proofs.lemmas.List.Folds.{list_all-append, list_any-append}
use Rattle.ds_plan.specs.Documents.{all_places, are_new, are_different, stood}
use Rattle.ds_setup.specs.Lists.{each, joined}

-- a value that was mapped
pub mapped : {X Y : Type 0} (f : X → Y) (o : Option X) (y : Y) → option_map f o ≡ Some y → (x : X) × (o ≡ Some x) × (f x ≡ y)
mapped f None y e = absurd (none-some y e)
mapped f (Some x) y e = (x, refl, same_Some (f x) y e)

pub past : {X : Type 0} (xs : List X) (i : ℕ) (d : X) → slice_get xs i ≡ None → get_or xs i d ≡ d
past [] i d e = refl
past (y ∷ xs) zero d e = absurd (none-some y (sym e))
past (y ∷ xs) (suc i) d e = past xs i d e

pub inside : {X : Type 0} (xs : List X) (i : ℕ) → i < length xs → (x : X) × (slice_get xs i ≡ Some x)
inside [] i lt = absurd (omega arith)
inside (x ∷ xs) zero lt = (x, refl)
inside (x ∷ xs) (suc i) lt = inside xs i (omega arith)

-- each

pub each_at : {X Y : Type 0} (f : ℕ → X → Y) (xs : List X) (i : ℕ) → slice_get (each f xs) i ≡ option_map (f i) (slice_get xs i)
each_at f [] i = refl
each_at f (x ∷ xs) zero = refl
each_at f (x ∷ xs) (suc i) = each_at (λ j. f (suc j)) xs i

pub length-each : {X Y : Type 0} (f : ℕ → X → Y) (xs : List X) → length (each f xs) ≡ length xs
length-each f [] = refl
length-each f (x ∷ xs) = ap suc (length-each (λ j. f (suc j)) xs)

pub each_there : {X Y : Type 0} (f : ℕ → X → Y) (xs : List X) (i : ℕ) (x : X) (d : Y) → slice_get xs i ≡ Some x → get_or (each f xs) i d ≡ f i x
each_there f xs i x d e = get_or_from_slice_get (each f xs) i (f i x) d (each_at f xs i ∙ ap (option_map (f i)) e)

pub each_past : {X Y : Type 0} (f : ℕ → X → Y) (xs : List X) (i : ℕ) (d : Y) → slice_get xs i ≡ None → get_or (each f xs) i d ≡ d
each_past f xs i d e = past (each f xs) i d (each_at f xs i ∙ ap (option_map (f i)) e)

pub from_each : {X Y : Type 0} (f : ℕ → X → Y) (xs : List X) (i : ℕ) (y : Y) → slice_get (each f xs) i ≡ Some y → (x : X) × (slice_get xs i ≡ Some x) × (f i x ≡ y)
from_each f xs i y e = mapped (f i) (slice_get xs i) y (sym (each_at f xs i) ∙ e)

pub from_map : {X Y : Type 0} (f : X → Y) (xs : List X) (i : ℕ) (y : Y) → slice_get (map f xs) i ≡ Some y → (x : X) × (slice_get xs i ≡ Some x) × (f x ≡ y)
from_map f xs i y e = mapped f (slice_get xs i) y (sym (slice_get-map f xs i) ∙ e)

-- a claim of each thing of a list

abbrev pub Every : {X : Type 0} → (X → Type 0) → List X → Type 0
Every {X} P xs = (i : ℕ) (x : X) → slice_get xs i ≡ Some x → P x

pub every_append : {X : Type 0} (P : X → Type 0) (xs ys : List X) → Every P xs → Every P ys → Every P (xs ++ ys)
every_append P [] ys p q i x e = q i x e
every_append P (y ∷ xs) ys p q zero x e = p zero x e
every_append P (y ∷ xs) ys p q (suc i) x e = every_append P xs ys (λ j z. p (suc j) z) q i x e

pub every_joined : {X : Type 0} (P : X → Type 0) (xss : List (List X)) → Every (Every P) xss → Every P (joined xss)
every_joined P [] p = λ i x e. absurd (none-some x e)
every_joined P (xs ∷ xss) p = every_append P xs (joined xss) (p 0 xs refl) (every_joined P xss (λ j z. p (suc j) z))

pub every_each : {X Y : Type 0} (P : Y → Type 0) (f : ℕ → X → Y) (xs : List X) → ((i : ℕ) (x : X) → slice_get xs i ≡ Some x → P (f i x)) → Every P (each f xs)
every_each {X} P f xs p i y e = let m : (x : X) × (slice_get xs i ≡ Some x) × (f i x ≡ y) = from_each f xs i y e in subst P m.2 (p i m.0 m.1)

pub every_map : {X Y : Type 0} (P : Y → Type 0) (f : X → Y) (xs : List X) → ((i : ℕ) (x : X) → slice_get xs i ≡ Some x → P (f x)) → Every P (map f xs)
every_map {X} P f xs p i y e = let m : (x : X) × (slice_get xs i ≡ Some x) × (f x ≡ y) = from_map f xs i y e in subst P m.2 (p i m.0 m.1)

-- tests of a whole list, at a place

pub test_at : {X : Type 0} (test : X → Bool) (xs : List X) (i : ℕ) (x : X) → list_all test xs ≡ true → slice_get xs i ≡ Some x → test x ≡ true
test_at test [] i x all e = absurd (none-some x e)
test_at test (y ∷ xs) zero x all e = subst (λ z. test z ≡ true) (same_Some y x e) (and_parts (test y) (list_all test xs) all).0
test_at test (y ∷ xs) (suc i) x all e = test_at test xs i x (and_parts (test y) (list_all test xs) all).1 e

pub all_at : {X : Type 0} (P : X → Type 0) (xs : List X) (i : ℕ) (x : X) → All P xs → slice_get xs i ≡ Some x → P x
all_at P xs i x all e = subst P (get_or_from_slice_get xs i x x e) (all i x (slice_get_within xs i x e))

pub test_append : {X : Type 0} (test : X → Bool) (xs ys : List X) → list_all test (xs ++ ys) ≡ true → (list_all test xs ≡ true) × (list_all test ys ≡ true)
test_append test xs ys all = and_parts (list_all test xs) (list_all test ys) (sym (list_all-append test xs ys) ∙ all)

pub test_flat : {X Y : Type 0} (test : Y → Bool) (f : X → List Y) (xs : List X) (i : ℕ) (x : X) → list_all test (flat_map f xs) ≡ true → slice_get xs i ≡ Some x → list_all test (f x) ≡ true
test_flat test f [] i x all e = absurd (none-some x e)
test_flat test f (y ∷ xs) zero x all e = subst (λ z. list_all test (f z) ≡ true) (same_Some y x e) (test_append test (f y) (flat_map f xs) all).0
test_flat test f (y ∷ xs) (suc i) x all e = test_flat test f xs i x (test_append test (f y) (flat_map f xs) all).1 e

pub place_at : {X : Type 0} (test : ℕ → X → Bool) (from : ℕ) (xs : List X) (i : ℕ) (x : X) → all_places test from xs ≡ true → slice_get xs i ≡ Some x → test (from + i) x ≡ true
place_at test from [] i x all e = absurd (none-some x e)
place_at test from (y ∷ xs) zero x all e =
    let same : from + 0 ≡ from = omega arith in
    subst (λ k. test k x ≡ true) (sym same) (subst (λ z. test from z ≡ true) (same_Some y x e) (and_parts (test from y) (all_places test (suc from) xs) all).0)
place_at test from (y ∷ xs) (suc i) x all e =
    let same : suc from + i ≡ from + suc i = omega arith in
    subst (λ k. test k x ≡ true) same (place_at test (suc from) xs i x (and_parts (test from y) (all_places test (suc from) xs) all).1 e)

-- what stands once stands at one place

module _ {X : Type 0} (same : X → X → Bool) where
  any_front : (y : X) (xs ys : List X) → stood same (xs ++ ys) y ≡ false → (stood same xs y ≡ false) × (stood same ys y ≡ false)
  any_front y xs ys none = or_parts (stood same xs y) (stood same ys y) (sym (list_any-append (λ z. same z y) xs ys) ∙ none)

  new_at : (before xs : List X) (j : ℕ) (y : X) → are_new same before xs ≡ true → slice_get xs j ≡ Some y → stood same before y ≡ false
  new_at before [] j y new e = absurd (none-some y e)
  new_at before (x ∷ xs) zero y new e = subst (λ z. stood same before z ≡ false) (same_Some x y e) (not-true (stood same before x) (and_parts (not (stood same before x)) (are_new same (before ++ x ∷ []) xs) new).0)
  new_at before (x ∷ xs) (suc j) y new e = (any_front y before (x ∷ []) (new_at (before ++ x ∷ []) xs j y (and_parts (not (stood same before x)) (are_new same (before ++ x ∷ []) xs) new).1 e)).0

  new_pair : (before xs : List X) (i j : ℕ) (x y : X) → are_new same before xs ≡ true → i < j → slice_get xs i ≡ Some x → slice_get xs j ≡ Some y → same x y ≡ false
  new_pair before [] i j x y new lt e q = absurd (none-some x e)
  new_pair before (z ∷ xs) i zero x y new lt e q = absurd (omega (arith, lt))
  new_pair before (z ∷ xs) zero (suc j) x y new lt e q =
      let front : stood same (z ∷ []) y ≡ false = (any_front y before (z ∷ []) (new_at (before ++ z ∷ []) xs j y (and_parts (not (stood same before z)) (are_new same (before ++ z ∷ []) xs) new).1 q)).1 in
      subst (λ k. same k y ≡ false) (same_Some z x e) (or_parts (same z y) false front).0
  new_pair before (z ∷ xs) (suc i) (suc j) x y new lt e q = new_pair (before ++ z ∷ []) xs i j x y (and_parts (not (stood same before z)) (are_new same (before ++ z ∷ []) xs) new).1 (omega (arith, lt)) e q

  pub one_place : (xs : List X) (i j : ℕ) (x y : X) → are_different same xs ≡ true → slice_get xs i ≡ Some x → slice_get xs j ≡ Some y → same x y ≡ true → same y x ≡ true → i ≡ j
  one_place xs i j x y new e q one two = go (cases_order i j)
    where
      no : (b : Bool) → b ≡ false → b ≡ true → ⊥
      no b f t = let clash : false ≡ true = sym f ∙ t in absurd cc

      go : (i ≡ j) ⊎ ((i < j) ⊎ (j < i)) → i ≡ j
      go (inl is) = is
      go (inr (inl lt)) = absurd (no (same x y) (new_pair [] xs i j x y new lt e q) one)
      go (inr (inr lt)) = absurd (no (same y x) (new_pair [] xs j i y x new lt q e) two)
