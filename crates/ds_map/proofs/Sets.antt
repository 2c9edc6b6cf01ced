-- Labels with the same members: equal answers, and, in order, equal labels.
use Rattle.std.proofs.Common.{◌≡◌, suc, length, Bool, true, false, ◌&&◌, ◌||◌, not, List, [], ◌∷◌, refl, sym, ap, ◌∙◌}
use Rattle.std.specs.List.{list_all, AllByRecursion}
use Rattle.std.specs.declared.cmp.Ordering.{Ordering}
use Rattle.std.specs.declared.cmp.Ordering.TheVariants.{Less, Equal, Greater}
use Rattle.std.specs.Ordering.{is_eq, ordering_reverse}
use Rattle.std.specs.List.Sorted.{IsStrictlySortedBy}
use Rattle.ds_label.specs.declared.rule.Rule.{Rule}
use Rattle.ds_label.specs.Flow.{Naming, has, flows, placed, with_member, IsRising}
use Rattle.ds_label.proofs.Namings.{IsNaming}
use Rattle.ds_label.proofs.Members.{same-is}
use Rattle.ds_label.proofs.Flows.{all_has, all_from_has}
use Rattle.ds_model.specs.FirstRule.{unless, or_else, each_secret}

pub and_first : (a b : Bool) → (a && b) ≡ true → a ≡ true
and_first true b e = refl
and_first false b e = e

pub and_second : (a b : Bool) → (a && b) ≡ true → b ≡ true
and_second true b e = e
and_second false b e = absurd cc

-- two tests that imply each other
pub same_bool : (a b : Bool) → (a ≡ true → b ≡ true) → (b ≡ true → a ≡ true) → a ≡ b
same_bool true b f g = sym (f refl)
same_bool false true f g = g refl
same_bool false false f g = refl

pub true_false : (b : Bool) → b ≡ true → b ≡ false → ⊥
true_false b p q = cc

-- the rule of the first secrecy category that fails, where it is the same rule for each
pub each_secret-is : {C : Type 0} (naming : Naming C) (test : C → Bool) (rule : Rule) (members : List C) → each_secret naming test (λ c. rule) members ≡ unless (list_all (λ c. not (naming.secret c) || test c) members) rule
each_secret-is naming test rule [] = refl
each_secret-is naming test rule (c ∷ members) = cases (not (naming.secret c) || test c) (list_all (λ d. not (naming.secret d) || test d) members) (each_secret-is naming test rule members)
  where
    cases : (a b : Bool) → each_secret naming test (λ d. rule) members ≡ unless b rule → or_else (unless a rule) (each_secret naming test (λ d. rule) members) ≡ unless (a && b) rule
    cases true b rest = rest
    cases false b rest = refl

module _ {C : Type 0} (naming : Naming C) (is : IsNaming naming) where
  -- a test of all members asks only which these are
  pub list_all-alike : (test : C → Bool) (xs ys : List C) → ((c : C) → has naming c xs ≡ has naming c ys) → list_all test xs ≡ list_all test ys
  list_all-alike test xs ys alike = same_bool (list_all test xs) (list_all test ys)
      (λ a. all_from_has naming is test ys (λ c h. all_has naming is c test xs a (alike c ∙ h)))
      (λ a. all_from_has naming is test xs (λ c h. all_has naming is c test ys a (sym (alike c) ∙ h)))

  pub flows-alike : (a b c x y z : List C) → ((d : C) → has naming d a ≡ has naming d x) → ((d : C) → has naming d b ≡ has naming d y) → ((d : C) → has naming d c ≡ has naming d z) → flows naming a b c ≡ flows naming x y z
  unfolding flows
  flows-alike a b c x y z p q r =
      let one = list_all-alike (λ d. not (naming.secret d) || (has naming d b || has naming d c)) a x p in
      let two = list_all-alike (λ d. naming.secret d || (has naming d a || has naming d c)) b y q in
      (λ i. one i && two i) ∙ (λ i. list_all (λ d. not (naming.secret d) || (q d i || r d i)) x && list_all (λ d. naming.secret d || (p d i || r d i)) y)

  -- ---- in order, the members say all

  none_below : (x : C) (ys : List C) → AllByRecursion (λ y. naming.compare x y ≡ Less) ys → has naming x ys ≡ false
  none_below x [] a = refl
  none_below x (y ∷ ys) a = ap (λ b. b || has naming x ys) (is.tells x y ∙ ap is_eq a.0) ∙ none_below x ys a.1

  below_all : (x y : C) (ys : List C) → naming.compare x y ≡ Less → AllByRecursion (λ z. naming.compare y z ≡ Less) ys → AllByRecursion (λ z. naming.compare x z ≡ Less) ys
  below_all x y [] e a = tt
  below_all x y (z ∷ ys) e a = (is.total.trans x y z e a.0, below_all x y ys e a.1)

  first_has : (x : C) (xs : List C) → has naming x (x ∷ xs) ≡ true
  first_has x xs = ap (λ b. b || has naming x xs) ((same-is naming is x x).1 refl)

  -- the first of a list in order isn't in one that begins above it
  not_above : (x y : C) (ys : List C) → naming.compare x y ≡ Less → IsRising naming (y ∷ ys) → has naming x (y ∷ ys) ≡ false
  unfolding IsStrictlySortedBy
  not_above x y ys e up = none_below x (y ∷ ys) (e, below_all x y ys e up.0)

  pub rising-equal : (xs ys : List C) → IsRising naming xs → IsRising naming ys → ((c : C) → has naming c xs ≡ has naming c ys) → xs ≡ ys
  unfolding IsStrictlySortedBy
  rising-equal [] [] up rise alike = refl
  rising-equal [] (y ∷ ys) up rise alike = absurd (true_false (has naming y (y ∷ ys)) (first_has y ys) (sym (alike y)))
  rising-equal (x ∷ xs) [] up rise alike = absurd (true_false (has naming x (x ∷ xs)) (first_has x xs) (alike x))
  rising-equal (x ∷ xs) (y ∷ ys) up rise alike = cases (naming.compare x y) refl (rising-equal xs ys up.1 rise.1)
    where
      rest : x ≡ y → (c : C) → has naming c xs ≡ has naming c ys
      rest e c = decide (naming.same c x) refl
        where
          decide : (b : Bool) → naming.same c x ≡ b → has naming c xs ≡ has naming c ys
          decide true s =
              let here : c ≡ x = (same-is naming is c x).0 s in
              ap (λ d. has naming d xs) here ∙ none_below x xs up.0 ∙ sym (ap (λ d. has naming d ys) (here ∙ e) ∙ none_below y ys rise.0)
          decide false s =
              let t : naming.same c y ≡ false = ap (naming.same c) (sym e) ∙ s in
              sym (ap (λ b. b || has naming c xs) s) ∙ alike c ∙ ap (λ b. b || has naming c ys) t

      cases : (o : Ordering) → naming.compare x y ≡ o → (((c : C) → has naming c xs ≡ has naming c ys) → xs ≡ ys) → x ∷ xs ≡ y ∷ ys
      cases Less e later = absurd (true_false (has naming x (x ∷ xs)) (first_has x xs) (alike x ∙ not_above x y ys e rise))
      cases Equal e later =
          let here = is.exact x y e in
          let tail = later (rest here) in
          λ i. here i ∷ tail i
      cases Greater e later = absurd (true_false (has naming y (y ∷ ys)) (first_has y ys) (sym (alike y) ∙ not_above y x xs (is.total.antisymm y x ∙ ap ordering_reverse e) up))

  -- a member more makes a label longer by one
  pub length-with_member_new : (x : C) (xs : List C) → has naming x xs ≡ false → length (with_member naming x xs) ≡ suc (length xs)
  length-with_member_new x [] e = refl
  length-with_member_new x (y ∷ ys) e = cases (naming.compare x y) refl (length-with_member_new x ys)
    where
      apart : naming.same x y ≡ false
      apart = or_first (naming.same x y) (has naming x ys) e
        where
          or_first : (a b : Bool) → (a || b) ≡ false → a ≡ false
          or_first true b f = f
          or_first false b f = refl

      later : has naming x ys ≡ false
      later = or_second (naming.same x y) (has naming x ys) e
        where
          or_second : (a b : Bool) → (a || b) ≡ false → b ≡ false
          or_second true b f = absurd cc
          or_second false b f = f

      cases : (o : Ordering) → naming.compare x y ≡ o → (has naming x ys ≡ false → length (with_member naming x ys) ≡ suc (length ys)) → length (placed o x y ys (with_member naming x ys)) ≡ suc (suc (length ys))
      cases Less f rest = refl
      cases Equal f rest = absurd (true_false (naming.same x y) (is.tells x y ∙ ap is_eq f) apart)
      cases Greater f rest = ap suc (rest later)
