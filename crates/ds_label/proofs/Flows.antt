-- What flow and the sets' algebra say of one category.
use Rattle.std.proofs.Common.{◌≡◌, ℕ, zero, suc, ◌<◌, length, Bool, true, false, ◌&&◌, ◌||◌, not, cond, List, [], ◌∷◌, refl, sym, ap, ◌∙◌, arith, inl, inr}
use Rattle.std.specs.Prelude.{◌⊎◌, map, Contains, slice_index_or}
use Rattle.std.specs.List.{list_all, AllByRecursion}
use Rattle.std.specs.Bool.{Decides}
use Rattle.ds_label.specs.Flow.{Naming, has, flows, Flows, same_label, minus, union, with_member}
use Rattle.ds_label.proofs.Namings.{IsNaming}
use Rattle.ds_label.proofs.Members.{same-is, has-with_member}

and_left : (a b : Bool) → (a && b) ≡ true → a ≡ true
and_left true b h = refl
and_left false b h = h

and_right : (a b : Bool) → (a && b) ≡ true → b ≡ true
and_right true b h = h
and_right false b h = absurd cc

and_both : (a b : Bool) → a ≡ true → b ≡ true → (a && b) ≡ true
and_both a b p q = cc

or_cases : (a b : Bool) → (a || b) ≡ true → (a ≡ true) ⊎ (b ≡ true)
or_cases true b h = inl refl
or_cases false b h = inr h

or_true : (a : Bool) → (a || true) ≡ true
or_true true = refl
or_true false = refl

module _ {C : Type 0} (naming : Naming C) (is : IsNaming naming) where
  -- what holds of all members holds of one
  pub all_has : (c : C) (test : C → Bool) (members : List C) → list_all test members ≡ true → has naming c members ≡ true → test c ≡ true
  all_has c test [] a h = absurd cc
  all_has c test (x ∷ members) a h = go (λ r. all_has c test members (and_right _ _ a) r) (or_cases _ _ h)
    where
      go : (has naming c members ≡ true → test c ≡ true) → (naming.same c x ≡ true) ⊎ (has naming c members ≡ true) → test c ≡ true
      go later (inl e) = ap test ((same-is naming is c x).0 e) ∙ and_left _ _ a
      go later (inr r) = later r

  -- what holds of each member holds of all
  pub all_from_has : (test : C → Bool) (members : List C) → ((c : C) → has naming c members ≡ true → test c ≡ true) → list_all test members ≡ true
  all_from_has test [] each = refl
  all_from_has test (x ∷ members) each =
      and_both (test x) (list_all test members)
      (each x (ap (λ b. b || has naming x members) ((same-is naming is x x).1 refl)))
      (all_from_has test members (λ c h. each c (ap (λ b. naming.same c x || b) h ∙ or_true (naming.same c x))))

  -- a secrecy category goes with the flow
  pub flows_carries : (c : C) (first second owned : List C) → naming.secret c ≡ true → flows naming first second owned ≡ true → has naming c first ≡ true → (has naming c second || has naming c owned) ≡ true
  unfolding flows
  flows_carries c first second owned s f h = rw s at (all_has c (λ x. not (naming.secret x) || (has naming x second || has naming x owned)) first (and_left _ _ f) h)

  -- an integrity category goes against it
  pub flows_claims : (c : C) (first second owned : List C) → naming.secret c ≡ false → flows naming first second owned ≡ true → has naming c second ≡ true → (has naming c first || has naming c owned) ≡ true
  unfolding flows
  flows_claims c first second owned s f h = rw s at (all_has c (λ x. naming.secret x || (has naming x first || has naming x owned)) second (and_right _ _ f) h)

  -- it flows where each category does as these two say
  pub flows_from : (first second owned : List C) →
      ((c : C) → naming.secret c ≡ true → has naming c first ≡ true → (has naming c second || has naming c owned) ≡ true) →
      ((c : C) → naming.secret c ≡ false → has naming c second ≡ true → (has naming c first || has naming c owned) ≡ true) →
      flows naming first second owned ≡ true
  unfolding flows
  flows_from first second owned carries claims =
      and_both _ _
      (all_from_has (λ c. not (naming.secret c) || (has naming c second || has naming c owned)) first (λ c h. secret_case (naming.secret c) (has naming c second || has naming c owned) (λ s. carries c s h)))
      (all_from_has (λ c. naming.secret c || (has naming c first || has naming c owned)) second (λ c h. other_case (naming.secret c) (has naming c first || has naming c owned) (λ s. claims c s h)))
    where
      secret_case : (s b : Bool) → (s ≡ true → b ≡ true) → (not s || b) ≡ true
      secret_case true b f = f refl
      secret_case false b f = refl

      other_case : (s b : Bool) → (s ≡ false → b ≡ true) → (s || b) ≡ true
      other_case true b f = refl
      other_case false b f = f refl

  pub same_label_carries : (c : C) (first second : List C) → same_label naming first second ≡ true → has naming c first ≡ true → has naming c second ≡ true
  unfolding same_label
  same_label_carries c first second f h = all_has c (λ x. has naming x second) first (and_left _ _ f) h

  pub same_label_carries_back : (c : C) (first second : List C) → same_label naming first second ≡ true → has naming c second ≡ true → has naming c first ≡ true
  unfolding same_label
  same_label_carries_back c first second f h = all_has c (λ x. has naming x first) second (and_right _ _ f) h

  pub same_label-refl : (members : List C) → same_label naming members members ≡ true
  unfolding same_label
  same_label-refl members = and_both _ _ (all_from_has (λ x. has naming x members) members (λ c h. h)) (all_from_has (λ x. has naming x members) members (λ c h. h))

  -- one is a member of a union where it is a member of either
  pub has-union : (c : C) (first second : List C) → has naming c (union naming first second) ≡ (has naming c first || has naming c second)
  unfolding union
  has-union c first [] = or_false (has naming c first)
    where
      or_false : (a : Bool) → a ≡ (a || false)
      or_false true = refl
      or_false false = refl
  has-union c first (x ∷ second) = has-union c (with_member naming x first) second ∙ ap (λ b. b || has naming c second) (has-with_member naming is c x first) ∙ regroup (naming.same c x) (has naming c first) (has naming c second)
    where
      regroup : (a b d : Bool) → ((a || b) || d) ≡ (b || (a || d))
      regroup true true d = refl
      regroup true false d = refl
      regroup false b d = refl

  -- and of a difference where it is a member of the first and not of the second
  pub has-minus : (c : C) (first second : List C) → has naming c (minus naming first second) ≡ (has naming c first && not (has naming c second))
  unfolding minus
  has-minus c [] second = refl
  has-minus c (x ∷ first) second = cases (has naming x second) refl (has-minus c first second)
    where
      step : (b : Bool) (e : has naming x second ≡ b) (s r m : Bool) → r ≡ (m && not (has naming c second)) → (s ≡ true → has naming c second ≡ b) → cond (not b) (s || r) r ≡ ((s || m) && not (has naming c second))
      step true e true r m later tied = rw (tied refl) (rw (tied refl) at later ∙ and_false m)
        where
          and_false : (m : Bool) → (m && false) ≡ false
          and_false true = refl
          and_false false = refl
      step true e false r m later tied = later
      step false e true r m later tied = rw (tied refl) refl
      step false e false r m later tied = later

      pull : (b : Bool) (ys : List C) → has naming c (cond (not b) (x ∷ ys) ys) ≡ cond (not b) (naming.same c x || has naming c ys) (has naming c ys)
      pull true ys = refl
      pull false ys = refl

      cases : (b : Bool) → has naming x second ≡ b → has naming c (minus naming first second) ≡ (has naming c first && not (has naming c second)) → has naming c (cond (not b) (x ∷ minus naming first second) (minus naming first second)) ≡ ((naming.same c x || has naming c first) && not (has naming c second))
      cases b e later = pull b (minus naming first second) ∙ step b e (naming.same c x) (has naming c (minus naming first second)) (has naming c first) later (λ s. ap (λ z. has naming z second) ((same-is naming is c x).0 s) ∙ e)

  -- a category tests as a member exactly where it is one
  pub has-Contains : (c : C) (members : List C) → has naming c members ≡ true → Contains members c
  has-Contains c [] e = absurd cc
  has-Contains c (x ∷ members) e = there (has-Contains c members) (or_cases _ _ e)
    where
      there : (has naming c members ≡ true → Contains members c) → (naming.same c x ≡ true) ⊎ (has naming c members ≡ true) → Contains (x ∷ members) c
      there later (inl here) = (0, omega arith, sym ((same-is naming is c x).0 here))
      there later (inr h) = let l = later h in (suc l.0, omega (arith, l.1), l.2)

  pub Contains-has : (c : C) (members : List C) (k : ℕ) → k < length members → slice_index_or members k c ≡ c → has naming c members ≡ true
  Contains-has c [] k lt e = absurd (omega arith)
  Contains-has c (x ∷ members) zero lt e = ap (λ b. b || has naming c members) ((same-is naming is c x).1 (sym e))
  Contains-has c (x ∷ members) (suc k) lt e = ap (λ b. naming.same c x || b) (Contains-has c members k (omega arith) e) ∙ or_true (naming.same c x)

  pub flows_is : (first second owned : List C) → Decides (flows naming first second owned) (Flows naming first second owned)
  flows_is first second owned = (
    λ f. record {
      carries = λ c s h. either c second owned (flows_carries c first second owned s f (Contains-has c first h.0 h.1 h.2));
      claims = λ c s h. either c first owned (flows_claims c first second owned s f (Contains-has c second h.0 h.1 h.2));
    },
    λ f. flows_from first second owned
        (λ c s h. one c second owned (f.carries c s (has-Contains c first h)))
        (λ c s h. one c first owned (f.claims c s (has-Contains c second h))),
  )
    where
      parts : (c : C) (xs ys : List C) → (has naming c xs ≡ true) ⊎ (has naming c ys ≡ true) → Contains xs c ⊎ Contains ys c
      parts c xs ys (inl h) = inl (has-Contains c xs h)
      parts c xs ys (inr h) = inr (has-Contains c ys h)

      either : (c : C) (xs ys : List C) → (has naming c xs || has naming c ys) ≡ true → Contains xs c ⊎ Contains ys c
      either c xs ys e = parts c xs ys (or_cases _ _ e)

      one : (c : C) (xs ys : List C) → Contains xs c ⊎ Contains ys c → (has naming c xs || has naming c ys) ≡ true
      one c xs ys (inl h) = ap (λ b. b || has naming c ys) (Contains-has c xs h.0 h.1 h.2)
      one c xs ys (inr h) = ap (λ b. has naming c xs || b) (Contains-has c ys h.0 h.1 h.2) ∙ or_true (has naming c xs)

-- Categories of two kinds, one for the other: where the tests of the known ones agree, so do membership and flow.
module _ {C D : Type 0} (from : Naming C) (to : Naming D) (f : C → D) (Known : C → Type 0)
    (alike : (x y : C) → Known x → Known y → to.same (f x) (f y) ≡ from.same x y) (kinds : (x : C) → Known x → to.secret (f x) ≡ from.secret x) where
  pub has_map : (c : C) (members : List C) → Known c → AllByRecursion Known members → has to (f c) (map f members) ≡ has from c members
  has_map c [] k ks = refl
  has_map c (x ∷ members) k ks = let here = alike c x k ks.0 in let later = has_map c members k ks.1 in λ i. here i || later i

  secrets_map : (members second owned : List C) → AllByRecursion Known members → AllByRecursion Known second → AllByRecursion Known owned →
      list_all (λ c. not (to.secret c) || (has to c (map f second) || has to c (map f owned))) (map f members) ≡ list_all (λ c. not (from.secret c) || (has from c second || has from c owned)) members
  secrets_map [] second owned ks ss os = refl
  secrets_map (x ∷ members) second owned ks ss os =
      let kind = kinds x ks.0 in let a = has_map x second ks.0 ss in let b = has_map x owned ks.0 os in let later = secrets_map members second owned ks.1 ss os in
      λ i. (not (kind i) || (a i || b i)) && later i

  others_map : (members first owned : List C) → AllByRecursion Known members → AllByRecursion Known first → AllByRecursion Known owned →
      list_all (λ c. to.secret c || (has to c (map f first) || has to c (map f owned))) (map f members) ≡ list_all (λ c. from.secret c || (has from c first || has from c owned)) members
  others_map [] first owned ks ss os = refl
  others_map (x ∷ members) first owned ks ss os =
      let kind = kinds x ks.0 in let a = has_map x first ks.0 ss in let b = has_map x owned ks.0 os in let later = others_map members first owned ks.1 ss os in
      λ i. (kind i || (a i || b i)) && later i

  pub flows_map : (first second owned : List C) → AllByRecursion Known first → AllByRecursion Known second → AllByRecursion Known owned → flows to (map f first) (map f second) (map f owned) ≡ flows from first second owned
  unfolding flows
  flows_map first second owned fs ss os = let a = secrets_map first second owned fs ss os in let b = others_map second first owned ss fs os in λ i. a i && b i
