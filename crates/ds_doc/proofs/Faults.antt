-- Rules that are kept everywhere, as tests.
use Rattle.std.proofs.Common.{◌≡◌, ℕ, zero, suc, ◌+◌, All, List, [], ◌∷◌, ◌++◌, map, flat_map, slice_get, Bool, true, false, ◌&&◌, ◌||◌, not, Option, Some, None, refl, sym, ap, subst, arith, if◌then◌else◌}
use Rattle.std.proofs.lemmas.Bool.{and_from}
use Rattle.std.proofs.lemmas.List.Elements.{All-nil, All-cons}
use Rattle.std.specs.List.{list_all}
use Rattle.ds_plan.specs.Documents.{stood, are_new, all_places}
use Rattle.ds_doc.specs.declared.fault.Fault.{Fault}
use Rattle.ds_doc.specs.Shapes.{unless, is_before, least, lesser}
use Rattle.ds_doc.specs.Rules.{repeats, each_place}

pub and_first : (a b : Bool) → (a && b) ≡ true → a ≡ true
and_first true b e = refl
and_first false b e = e

pub and_second : (a b : Bool) → (a && b) ≡ true → b ≡ true
and_second true b e = e
and_second false b e = absurd cc

true_false : (b : Bool) → b ≡ true → b ≡ false → ⊥
true_false b p q = cc

pub kept : (test : Bool) (code at : ℕ) → unless test code at ≡ [] → test ≡ true
kept true code at e = refl
kept false code at e = absurd cc

pub front_kept : (fs gs : List Fault) → fs ++ gs ≡ [] → fs ≡ []
front_kept [] gs e = refl
front_kept (f ∷ fs) gs e = absurd cc

pub rest_kept : (fs gs : List Fault) → fs ++ gs ≡ [] → gs ≡ []
rest_kept [] gs e = e
rest_kept (f ∷ fs) gs e = absurd cc

never : (b : Bool) (f g : Fault) → (if b then Some g else Some f) ≡ None → ⊥
never true f g e = cc
never false f g e = cc

lesser_some : (f : Fault) (g : Option Fault) → lesser (Some f) g ≡ None → ⊥
lesser_some f None e = cc
lesser_some f (Some g) e = never (is_before g f) f g e

pub none_broken : (fs : List Fault) → least fs ≡ None → fs ≡ []
none_broken [] e = refl
none_broken (f ∷ fs) e = absurd (lesser_some f (least fs) e)

get_here : {A : Type 0} (y : A) (ys : List A) (x : A) → slice_get (y ∷ ys) 0 ≡ Some x → y ≡ x
get_here y ys x h = cc

-- of each item
pub each_kept : {A : Type 0} (rule : A → List Fault) (test : A → Bool) (xs : List A) → ((x : A) → rule x ≡ [] → test x ≡ true) → flat_map rule xs ≡ [] → list_all test xs ≡ true
each_kept rule test [] says e = refl
each_kept rule test (x ∷ xs) says e =
    and_from (test x) (list_all test xs) (says x (front_kept (rule x) (flat_map rule xs) e)) (each_kept rule test xs says (rest_kept (rule x) (flat_map rule xs) e))

-- of the item at a place
pub rule_at : {A : Type 0} (rule : ℕ → A → List Fault) (place : ℕ) (xs : List A) (n : ℕ) (x : A) → each_place rule place xs ≡ [] → slice_get xs n ≡ Some x → rule (place + n) x ≡ []
rule_at rule place [] n x e h = absurd cc
rule_at rule place (y ∷ ys) zero x e h =
    subst (λ z. rule (place + 0) z ≡ []) (get_here y ys x h) (subst (λ m. rule m y ≡ []) (omega arith) (front_kept (rule place y) (each_place rule (suc place) ys) e))
rule_at rule place (y ∷ ys) (suc n) x e h =
    subst (λ m. rule m x ≡ []) (omega arith) (rule_at rule (suc place) ys n x (rest_kept (rule place y) (each_place rule (suc place) ys) e) h)

-- a test of each item and its place
pub places_by : {A B : Type 0} (test : ℕ → B → Bool) (f : A → B) (place : ℕ) (xs : List A) → ((n : ℕ) (x : A) → slice_get xs n ≡ Some x → test (place + n) (f x) ≡ true) → all_places test place (map f xs) ≡ true
places_by test f place [] says = refl
places_by test f place (x ∷ xs) says =
    and_from (test place (f x)) (all_places test (suc place) (map f xs)) (subst (λ m. test m (f x) ≡ true) (omega arith) (says 0 x refl))
    (places_by test f (suc place) xs (λ n y h. subst (λ m. test m (f y) ≡ true) (omega arith) (says (suc n) y h)))

pub lists_by : {A B : Type 0} (test : B → Bool) (f : A → B) (xs : List A) → ((n : ℕ) (x : A) → slice_get xs n ≡ Some x → test (f x) ≡ true) → list_all test (map f xs) ≡ true
lists_by test f [] says = refl
lists_by test f (x ∷ xs) says = and_from (test (f x)) (list_all test (map f xs)) (says 0 x refl) (lists_by test f xs (λ n y h. says (suc n) y h))

pub facts_by : {A B : Type 0} (P : B → Type 0) (f : A → B) (xs : List A) → ((n : ℕ) (x : A) → slice_get xs n ≡ Some x → P (f x)) → All P (map f xs)
facts_by P f [] says = All-nil P
facts_by P f (x ∷ xs) says = All-cons P (f x) (map f xs) (says 0 x refl) (facts_by P f xs (λ n y h. says (suc n) y h))

-- ---- lists of tests

pub all_map : {A B : Type 0} (test : B → Bool) (f : A → B) (xs : List A) → list_all (λ x. test (f x)) xs ≡ true → list_all test (map f xs) ≡ true
all_map test f [] e = refl
all_map test f (x ∷ xs) e =
    and_from (test (f x)) (list_all test (map f xs)) (and_first (test (f x)) (list_all (λ y. test (f y)) xs) e) (all_map test f xs (and_second (test (f x)) (list_all (λ y. test (f y)) xs) e))

pub all_more : {A : Type 0} (p q : A → Bool) (xs : List A) → ((x : A) → p x ≡ true → q x ≡ true) → list_all p xs ≡ true → list_all q xs ≡ true
all_more p q [] f e = refl
all_more p q (x ∷ xs) f e =
    and_from (q x) (list_all q xs) (f x (and_first (p x) (list_all p xs) e)) (all_more p q xs f (and_second (p x) (list_all p xs) e))

pub all_both : {A : Type 0} (p q r : A → Bool) (xs : List A) → ((x : A) → p x ≡ true → q x ≡ true → r x ≡ true) → list_all p xs ≡ true → list_all q xs ≡ true → list_all r xs ≡ true
all_both p q r [] f e g = refl
all_both p q r (x ∷ xs) f e g =
    and_from (r x) (list_all r xs) (f x (and_first (p x) (list_all p xs) e) (and_first (q x) (list_all q xs) g))
    (all_both p q r xs f (and_second (p x) (list_all p xs) e) (and_second (q x) (list_all q xs) g))

pub all_append : {A : Type 0} (p : A → Bool) (xs ys : List A) → list_all p xs ≡ true → list_all p ys ≡ true → list_all p (xs ++ ys) ≡ true
all_append p [] ys e g = g
all_append p (x ∷ xs) ys e g =
    and_from (p x) (list_all p (xs ++ ys)) (and_first (p x) (list_all p xs) e) (all_append p xs ys (and_second (p x) (list_all p xs) e) g)

pub all_flat : {A B : Type 0} (p : B → Bool) (f : A → List B) (xs : List A) → list_all (λ x. list_all p (f x)) xs ≡ true → list_all p (flat_map f xs) ≡ true
all_flat p f [] e = refl
all_flat p f (x ∷ xs) e =
    all_append p (f x) (flat_map f xs) (and_first (list_all p (f x)) (list_all (λ y. list_all p (f y)) xs) e)
    (all_flat p f xs (and_second (list_all p (f x)) (list_all (λ y. list_all p (f y)) xs) e))

-- ---- what stands once

pub repeats_new : {A : Type 0} (same : A → A → Bool) (place : A → ℕ) (before xs : List A) → repeats same place before xs ≡ [] → are_new same before xs ≡ true
repeats_new same place before [] e = refl
repeats_new same place before (x ∷ xs) e =
    let f = unless (not (stood same before x)) 6 (place x) in
    and_from (not (stood same before x)) (are_new same (before ++ x ∷ []) xs)
    (kept (not (stood same before x)) 6 (place x) (front_kept f (repeats same place (before ++ x ∷ []) xs) e))
    (repeats_new same place (before ++ x ∷ []) xs (rest_kept f (repeats same place (before ++ x ∷ []) xs) e))

not_true : (b : Bool) → not b ≡ true → b ≡ false
not_true true e = absurd cc
not_true false e = refl

from_false : (b : Bool) → b ≡ false → not b ≡ true
from_false true e = absurd cc
from_false false e = refl

stood_step : (now later a b : Bool) → (now ≡ true → a ≡ true) → (a || b) ≡ false → later ≡ false → (now || later) ≡ false
stood_step true later true b f h l = absurd cc
stood_step true later false b f h l = absurd (true_false false (f refl) refl)
stood_step false later a b f h l = l

or_second : (a b : Bool) → (a || b) ≡ false → b ≡ false
or_second true b i = absurd cc
or_second false b i = i

-- what stands once stands once in other words, where these are no coarser for what is known of the items
module _ {A B : Type 0} (known : A → Bool) (same : A → A → Bool) (same_b : B → B → Bool) (f : A → B)
    (finer : (x y : A) → known x ≡ true → known y ≡ true → same_b (f x) (f y) ≡ true → same x y ≡ true) where
  stood_map : (before : List A) (x : A) → list_all known before ≡ true → known x ≡ true → stood same before x ≡ false → stood same_b (map f before) (f x) ≡ false
  stood_map [] x e k h = refl
  stood_map (y ∷ ys) x e k h =
      stood_step (same_b (f y) (f x)) (stood same_b (map f ys) (f x)) (same y x) (stood same ys x)
      (λ g. finer y x (and_first (known y) (list_all known ys) e) k g) h
      (stood_map ys x (and_second (known y) (list_all known ys) e) k (or_second (same y x) (stood same ys x) h))

  pub new_map : (before xs : List A) → list_all known before ≡ true → list_all known xs ≡ true → are_new same before xs ≡ true → are_new same_b (map f before) (map f xs) ≡ true
  new_map before [] e g h = refl
  new_map before (x ∷ xs) e g h =
      let k = and_first (known x) (list_all known xs) g in
      let ks = and_second (known x) (list_all known xs) g in
      let now = and_first (not (stood same before x)) (are_new same (before ++ x ∷ []) xs) h in
      let later = and_second (not (stood same before x)) (are_new same (before ++ x ∷ []) xs) h in
      let rest = new_map (before ++ x ∷ []) xs (all_append known before (x ∷ []) e (and_from (known x) true k refl)) ks later in
      let moved : map f before ++ f x ∷ [] ≡ map f (before ++ x ∷ []) = push before x in
      and_from (not (stood same_b (map f before) (f x))) (are_new same_b (map f before ++ f x ∷ []) (map f xs))
      (from_false _ (stood_map before x e k (not_true _ now)))
      (subst (λ zs. are_new same_b zs (map f xs) ≡ true) (sym moved) rest)
    where
      push : (zs : List A) (z : A) → map f zs ++ f z ∷ [] ≡ map f (zs ++ z ∷ [])
      push [] z = refl
      push (w ∷ zs) z = ap (λ ws. f w ∷ ws) (push zs z)
