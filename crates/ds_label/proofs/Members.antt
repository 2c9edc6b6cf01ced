-- Members of rising lists.
use Rattle.std.proofs.Common.{◌≡◌, ℕ, zero, suc, ◌≤◌, ◌<◌, Bool, true, false, ◌&&◌, ◌||◌, cond, List, [], ◌∷◌, ◌++◌, ◌-◌, length, None, slice_get, take, drop, get_or, refl, sym, ap, ◌∙◌, subst, arith, length-append, length-drop, add-one, drop-cons, ◌+◌}
use Rattle.std.proofs.lemmas.List.{length-take}
use Rattle.std.proofs.lemmas.List.Kept.{IsStrictlySortedBy-filter}
use Rattle.std.specs.Prelude.{Result, Ok, Err, Some}
use Rattle.std.specs.Bool.{Decides}
use Rattle.std.specs.Result.{result_err}
use Rattle.std.specs.declared.cmp.Ordering.{Ordering}
use Rattle.std.specs.declared.cmp.Ordering.TheVariants.{Less, Equal, Greater}
use Rattle.std.specs.Ordering.{is_eq, is_lt, ordering_index, ordering_reverse}
use Rattle.std.specs.Cmp.{IsTotalOrder, Equal-is, tied_itself}
use Rattle.std.specs.List.{list_any, list_all, insert, AllByRecursion, AllWithin, HoldsAt, filter}
use Rattle.std.specs.List.Sorted.{IsStrictlySortedBy, IsNonDecreasingBy, IsBinarySearchResult, IsSearchInRange}
use Rattle.ds_label.specs.Flow.{Naming, has, placed, with_member, union, last_of, is_above, IsRising}
use Rattle.ds_label.specs.Search.{IsGap}
use Rattle.ds_label.proofs.Namings.{IsNaming}
use lib.Pointwise.{pointwise}

pub IsRising-nil : {C : Type 0} (naming : Naming C) → IsRising naming []
unfolding IsStrictlySortedBy
IsRising-nil naming = tt

-- only equal categories are the same
pub same-is : {C : Type 0} (naming : Naming C) (is : IsNaming naming) (x y : C) → Decides (naming.same x y) (x ≡ y)
same-is naming is x y = (
  λ e. is.exact x y ((Equal-is _).0 (sym (is.tells x y) ∙ e)),
  λ e. subst (λ z. naming.same x z ≡ true) e (is.tells x x ∙ ap is_eq (tied_itself is.total x)),
)

pub pointwise-is : {C : Type 0} (same : C → C → Bool) → ((x y : C) → Decides (same x y) (x ≡ y)) → (xs ys : List C) → Decides (pointwise same xs ys) (xs ≡ ys)
pointwise-is same is [] [] = (λ e. refl, λ e. refl)
pointwise-is same is [] (y ∷ ys) = (λ e. absurd cc, λ e. absurd cc)
pointwise-is same is (x ∷ xs) [] = (λ e. absurd cc, λ e. absurd cc)
pointwise-is same is (x ∷ xs) (y ∷ ys) = (
  λ e. let p : same x y ≡ true = Rattle.std.specs.Cmp.first_so (same x y) (pointwise same xs ys) e in
      let q : pointwise same xs ys ≡ true = Rattle.std.specs.Cmp.second_so (same x y) (pointwise same xs ys) e in
      let here = (is x y).0 p in let later = (pointwise-is same is xs ys).0 q in cc,
  λ e. let here : x ≡ y = cc in let later : xs ≡ ys = cc in
      ap (λ b. b && pointwise same xs ys) ((is x y).1 here) ∙ (pointwise-is same is xs ys).1 later,
)

pub pointwise-alike : {C : Type 0} (E F : C → C → Bool) → ((x y : C) → E x y ≡ F x y) → (xs ys : List C) → pointwise E xs ys ≡ pointwise F xs ys
pointwise-alike E F alike [] [] = refl
pointwise-alike E F alike [] (y ∷ ys) = refl
pointwise-alike E F alike (x ∷ xs) [] = refl
pointwise-alike E F alike (x ∷ xs) (y ∷ ys) = let here = alike x y in let later = pointwise-alike E F alike xs ys in λ i. here i && later i

-- ---- what a binary search finds

all_at : {C : Type 0} (P : C → Type 0) (xs : List C) → AllByRecursion P xs → (j : ℕ) (d : C) → j < length xs → P (get_or xs j d)
all_at P [] a j d lt = absurd (omega arith)
all_at P (x ∷ xs) a zero d lt = a.0
all_at P (x ∷ xs) a (suc j) d lt = all_at P xs a.1 j d (omega arith)

all_map : {C : Type 0} (P Q : C → Type 0) → ((y : C) → P y → Q y) → (xs : List C) → AllByRecursion P xs → AllByRecursion Q xs
all_map P Q f [] a = tt
all_map P Q f (x ∷ xs) a = (f x a.0, all_map P Q f xs a.1)

module _ {C : Type 0} (naming : Naming C) (is : IsNaming naming) where
  turned : (x y : C) (o : Ordering) → naming.compare x y ≡ o → naming.compare y x ≡ ordering_reverse o
  turned x y o e = is.total.antisymm y x ∙ ap ordering_reverse e

  -- what is above more compares as more
  index_rises : (x y q : C) (o : Ordering) → naming.compare x y ≡ Less → naming.compare y q ≡ o → ordering_index (naming.compare x q) ≤ ordering_index (naming.compare y q)
  index_rises x y q Less below e = let f : naming.compare x q ≡ Less = is.total.trans x y q below e in rw f (rw e (omega arith))
  index_rises x y q Equal below e = let f : naming.compare x q ≡ Less = subst (λ z. naming.compare x z ≡ Less) (is.exact y q e) below in rw f (omega arith)
  index_rises x y q Greater below e = rw e (most (naming.compare x q))
    where
      most : (o : Ordering) → ordering_index o ≤ 2
      most Less = omega arith
      most Equal = omega arith
      most Greater = omega arith

  searchable : (xs : List C) (q : C) → IsRising naming xs → IsNonDecreasingBy (λ y. ordering_index (naming.compare y q)) xs
  unfolding IsStrictlySortedBy
  searchable [] q up i j d le lt = absurd (omega arith)
  searchable (x ∷ xs) q up zero zero d le lt = omega arith
  searchable (x ∷ xs) q up zero (suc j) d le lt = index_rises x (get_or xs j d) q (naming.compare (get_or xs j d) q) (all_at (λ y. naming.compare x y ≡ Less) xs up.0 j d (omega arith)) refl
  searchable (x ∷ xs) q up (suc i) zero d le lt = absurd (omega arith)
  searchable (x ∷ xs) q up (suc i) (suc j) d le lt = searchable xs q up.1 i j d (omega arith) (omega arith)

  -- a place with the category
  pub found : (xs : List C) (x : C) (i : ℕ) → IsRising naming xs → i < length xs → HoldsAt (λ y. naming.compare y x ≡ Equal) xs i → (has naming x xs ≡ true) × (with_member naming x xs ≡ xs)
  unfolding IsStrictlySortedBy
  found [] x i up lt at = absurd (omega arith)
  found (y ∷ ys) x zero up lt at =
      let e : naming.compare x y ≡ Equal = turned y x Equal (at x) in
      (ap (λ b. b || has naming x ys) (is.tells x y ∙ ap is_eq e), ap (λ o. placed o x y ys (with_member naming x ys)) e)
  found (y ∷ ys) x (suc i) up lt at =
      let later = found ys x i up.1 (omega arith) at in
      let z : naming.compare y x ≡ Less = subst (λ z. naming.compare y z ≡ Less) (is.exact _ _ (at x)) (all_at (λ z. naming.compare y z ≡ Less) ys up.0 i x (omega arith)) in
      let e : naming.compare x y ≡ Greater = turned y x Less z in
      (ap (λ b. b || has naming x ys) (is.tells x y ∙ ap is_eq e) ∙ later.0, ap (λ o. placed o x y ys (with_member naming x ys)) e ∙ ap (λ zs. y ∷ zs) later.1)

  -- a place between what is below the category and what is above it
  pub missed : (xs : List C) (x : C) (i : ℕ) → i ≤ length xs → AllWithin (λ y. naming.compare y x ≡ Less) xs 0 i → AllWithin (λ y. naming.compare y x ≡ Greater) xs i (length xs) → (has naming x xs ≡ false) × (with_member naming x xs ≡ insert xs i x)
  missed [] x zero le below above = (refl, refl)
  missed [] x (suc i) le below above = absurd (omega arith)
  missed (y ∷ ys) x zero le below above =
      let e : naming.compare x y ≡ Less = turned y x Greater (above 0 y (omega arith) (omega arith)) in
      let later = missed ys x zero (omega arith) (λ k d lo hi. absurd (omega arith)) (λ k d lo hi. above (suc k) d (omega arith) (omega arith)) in
      (ap (λ b. b || has naming x ys) (is.tells x y ∙ ap is_eq e) ∙ later.0, ap (λ o. placed o x y ys (with_member naming x ys)) e)
  missed (y ∷ ys) x (suc i) le below above =
      let e : naming.compare x y ≡ Greater = turned y x Less (below 0 y (omega arith) (omega arith)) in
      let later = missed ys x i (omega arith) (λ k d lo hi. below (suc k) d (omega arith) (omega arith)) (λ k d lo hi. above (suc k) d (omega arith) (omega arith)) in
      (ap (λ b. b || has naming x ys) (is.tells x y ∙ ap is_eq e) ∙ later.0, ap (λ o. placed o x y ys (with_member naming x ys)) e ∙ ap (λ zs. y ∷ zs) later.1)

  pub searched : (f : C → Ordering) (xs : List C) (x : C) (r : Result ℕ ℕ) → ((y : C) → f y ≡ naming.compare y x) → IsRising naming xs → IsSearchInRange r (length xs) → IsBinarySearchResult f xs r → IsGap naming x xs (result_err r)
  searched f xs x (Ok i) alike up within at = found xs x i up within (λ d. sym (alike _) ∙ at d)
  searched f xs x (Err i) alike up within at =
      let parts = at (subst (λ (g : C → Ordering). IsNonDecreasingBy (λ y. ordering_index (g y)) xs) (λ i y. sym (alike y) i) (searchable xs x up)) in
      let m = missed xs x i within (λ k d lo hi. sym (alike _) ∙ parts.0 k d lo hi) (λ k d lo hi. sym (alike _) ∙ parts.1 k d lo hi) in
      (within, m.0, m.1)

  -- ---- with a member more

  all_with_member : (P : C → Type 0) (x : C) (xs : List C) → P x → AllByRecursion P xs → AllByRecursion P (with_member naming x xs)
  all_with_member P x [] p a = (p, tt)
  all_with_member P x (y ∷ ys) p a = elim (naming.compare x y) as (λ o. AllByRecursion P (placed o x y ys (with_member naming x ys))) [
    | Less ↦ (p, a)
    | Equal ↦ a
    | Greater ↦ (a.0, all_with_member P x ys p a.1)
  ]

  pub IsRising-with_member : (x : C) (xs : List C) → IsRising naming xs → IsRising naming (with_member naming x xs)
  unfolding IsStrictlySortedBy
  IsRising-with_member x [] up = (tt, tt)
  IsRising-with_member x (y ∷ ys) up = cases (IsRising-with_member x ys up.1) (naming.compare x y) refl
    where
      cases : IsRising naming (with_member naming x ys) → (o : Ordering) → naming.compare x y ≡ o → IsRising naming (placed o x y ys (with_member naming x ys))
      cases later Less e = ((e, all_map (λ z. naming.compare y z ≡ Less) (λ z. naming.compare x z ≡ Less) (λ z f. is.total.trans x y z e f) ys up.0), up)
      cases later Equal e = up
      cases later Greater e = (all_with_member (λ z. naming.compare y z ≡ Less) x ys (turned x y Greater e) up.0, later)

  or_swap : (a b c : Bool) → (a || (b || c)) ≡ (b || (a || c))
  or_swap true true c = refl
  or_swap true false c = refl
  or_swap false b c = refl

  or_twice : (a b : Bool) → (a || b) ≡ (a || (a || b))
  or_twice true b = refl
  or_twice false b = refl

  -- the members with one more are those before and this one
  pub has-with_member : (d x : C) (xs : List C) → has naming d (with_member naming x xs) ≡ (naming.same d x || has naming d xs)
  has-with_member d x [] = refl
  has-with_member d x (y ∷ ys) = cases (has-with_member d x ys) (naming.compare x y) refl
    where
      cases : has naming d (with_member naming x ys) ≡ (naming.same d x || has naming d ys) → (o : Ordering) → naming.compare x y ≡ o → has naming d (placed o x y ys (with_member naming x ys)) ≡ (naming.same d x || (naming.same d y || has naming d ys))
      cases later Less e = refl
      cases later Equal e = subst (λ z. (naming.same d y || has naming d ys) ≡ (naming.same d z || (naming.same d y || has naming d ys))) (sym (is.exact x y e)) (or_twice (naming.same d y) (has naming d ys))
      cases later Greater e = ap (λ b. naming.same d y || b) later ∙ or_swap (naming.same d y) (naming.same d x) (has naming d ys)

  -- a rising list with one member more at its place
  pub grown : (old new slice : List C) (x : C) (place : ℕ) → IsRising naming old → length old < 64 → slice ≡ old → IsGap naming x slice (Some place) → new ≡ insert old place x → IsRising naming new × (length new ≤ 64)
  grown old new slice x place up few same at is-new =
      let at-old : IsGap naming x old (Some place) = subst (λ (s : List C). IsGap naming x s (Some place)) same at in (
        subst (IsRising naming) (at-old.2 ∙ sym is-new) (IsRising-with_member x old up),
        rw is-new (omega (arith, length-append (take place old) (x ∷ drop place old), length-take place old, length-drop place old)),
      )

  -- a rising list without some members
  pub kept : (p : C → Bool) (old : List C) → IsRising naming old → length old ≤ 64 → IsRising naming (filter p old) × (length (filter p old) ≤ 64)
  kept p old up few = (IsStrictlySortedBy-filter naming.compare p old up, omega (arith, fewer p old))
    where
      fewer : (p : C → Bool) (xs : List C) → length (filter p xs) ≤ length xs
      fewer p [] = omega arith
      fewer p (x ∷ xs) = elim (p x) as (λ b. length (cond b (x ∷ filter p xs) (filter p xs)) ≤ suc (length xs)) [ true ↦ omega (arith, fewer p xs) | false ↦ omega (arith, fewer p xs) ]

  length-with_member : (x : C) (xs : List C) → length xs ≤ length (with_member naming x xs)
  length-with_member x [] = omega arith
  length-with_member x (y ∷ ys) = elim (naming.compare x y) as (λ o. suc (length ys) ≤ length (placed o x y ys (with_member naming x ys))) [
    | Less ↦ omega arith
    | Equal ↦ omega arith
    | Greater ↦ omega (arith, length-with_member x ys)
  ]

  -- a union has no fewer members than the first
  pub length-union : (first second : List C) → length first ≤ length (union naming first second)
  unfolding union
  length-union first [] = omega arith
  length-union first (x ∷ second) = omega (arith, length-with_member x first, length-union (with_member naming x first) second)

  pub IsRising-union : (first second : List C) → IsRising naming first → IsRising naming (union naming first second)
  unfolding union
  IsRising-union first [] up = up
  IsRising-union first (x ∷ second) up = IsRising-union (with_member naming x first) second (IsRising-with_member x first up)

  pub union-next : (first second : List C) (x : C) → union naming first (x ∷ second) ≡ union naming (with_member naming x first) second
  unfolding union
  union-next first second x = refl

  pub union-none : (first : List C) → union naming first [] ≡ first
  unfolding union
  union-none first = refl

  pub length-gap : (xs : List C) (x : C) (place : ℕ) → IsGap naming x xs (Some place) → length (with_member naming x xs) ≡ suc (length xs)
  length-gap xs x place at = rw at.2 (omega (arith, at.0, length-append (take place xs) (x ∷ drop place xs), length-take place xs, length-drop place xs))

  -- one step of a union, along the second
  pub union-step : (first second whole : List C) (i : ℕ) (d : C) → i < length second → union naming first (drop i second) ≡ whole → union naming (with_member naming (get_or second i d) first) (drop (i + 1) second) ≡ whole
  union-step first second whole i d lt rest =
      rw add-one (sym (union-next first (drop (suc i) second) (get_or second i d)) ∙ ap (union naming first) (sym (drop-cons second i d lt)) ∙ rest)

-- ---- with a member at the end

-- the last element is at the last place
pub last_of-slice_get : {C : Type 0} (xs : List C) → last_of None xs ≡ slice_get xs (length xs - 1)
last_of-slice_get [] = refl
last_of-slice_get (x ∷ xs) = let e : suc (length xs) - 1 ≡ length xs = omega arith in rw e (walk x xs)
  where
    walk : {C : Type 0} (x : C) (xs : List C) → last_of (Some x) xs ≡ slice_get (x ∷ xs) (length xs)
    walk x [] = refl
    walk x (y ∷ ys) = walk y ys

pub lt_is : (o : Ordering) → is_lt o ≡ true → o ≡ Less
lt_is Less e = refl
lt_is Equal e = absurd cc
lt_is Greater e = absurd cc

module _ {C : Type 0} (naming : Naming C) (is : IsNaming naming) where
  -- what is below all members is below the last
  below_last : (x y z : C) (xs : List C) → naming.compare x y ≡ Less → AllByRecursion (λ v. naming.compare x v ≡ Less) xs → is_above naming z (last_of (Some y) xs) ≡ true → naming.compare x z ≡ Less
  below_last x y z [] here later up = is.total.trans x y z here (lt_is (naming.compare y z) up)
  below_last x y z (v ∷ vs) here later up = below_last x v z vs later.0 later.1 up

  all_push : (P : C → Type 0) (z : C) (xs : List C) → AllByRecursion P xs → P z → AllByRecursion P (xs ++ z ∷ [])
  all_push P z [] a p = (p, tt)
  all_push P z (x ∷ xs) a p = (a.0, all_push P z xs a.1 p)

  pub IsRising-push : (xs : List C) (z : C) → IsRising naming xs → is_above naming z (last_of None xs) ≡ true → IsRising naming (xs ++ z ∷ [])
  unfolding IsStrictlySortedBy
  IsRising-push [] z up above = (tt, tt)
  IsRising-push (x ∷ xs) z up above = walk x xs up above
    where
      walk : (x : C) (xs : List C) → IsRising naming (x ∷ xs) → is_above naming z (last_of (Some x) xs) ≡ true → IsRising naming ((x ∷ xs) ++ z ∷ [])
      walk x [] up above = ((lt_is (naming.compare x z) above, tt), (tt, tt))
      walk x (y ∷ ys) up above = (all_push (λ v. naming.compare x v ≡ Less) z (y ∷ ys) up.0 (below_last x y z ys up.0.0 up.0.1 above), walk y ys up.1 above)

  -- a rising list with a member above all others at its end
  pub ended : (old new : List C) (z : C) → IsRising naming old → length old < 64 → is_above naming z (last_of None old) ≡ true → new ≡ old ++ z ∷ [] → IsRising naming new × (length new ≤ 64)
  ended old new z up few above is-new = (rw is-new (IsRising-push old z up above), rw is-new (omega (arith, length-append old (z ∷ []))))
