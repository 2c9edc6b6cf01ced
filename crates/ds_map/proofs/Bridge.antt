-- Categories of two kinds, one for the other, by a map that tells apart what differs and keeps what is for secrecy: each
-- answer about labels is the same for their images, and what the algebra of labels makes of them is the image of what it makes.
use Rattle.std.proofs.Common.{◌≡◌, ℕ, suc, ◌+◌, length, Bool, true, false, ◌&&◌, ◌||◌, not, cond, List, [], ◌∷◌, Some, refl, sym, ap, ◌∙◌, subst, arith, add-zero, zero-add}
use Rattle.std.specs.Prelude.{map, nat_le, nat_lt, ◌^◌, ◌-◌}
use Rattle.std.specs.List.{list_all, list_any, AllByRecursion, filter}
use Rattle.std.specs.declared.cmp.Ordering.{Ordering}
use Rattle.std.specs.declared.cmp.Ordering.TheVariants.{Less, Equal, Greater}
use Rattle.std.specs.List.Sorted.{IsStrictlySortedBy}
use Rattle.std.specs.Ordering.{is_eq}
use Rattle.std.proofs.lemmas.List.Kept.{IsStrictlySortedBy-filter}
use Rattle.ds_label.specs.declared.rule.Rule.TheVariants.{NotFlow, GrantNotOwned, ClearNotHeld, NotFlowToBox, NotFlowToTaker, LabelRefused, NotPublic, TooMany}
use Rattle.ds_label.specs.Flow.{Naming, has, flows, same_label, placed, with_member, union, minus, IsRising}
use Rattle.ds_label.proofs.Namings.{IsNaming}
use Rattle.ds_label.proofs.Members.{same-is, has-with_member, IsRising-union, IsRising-with_member, union-next, union-none, IsRising-nil}
use Rattle.ds_label.proofs.Flows.{all_has, all_from_has, has-union, has-minus, has_map, flows_map}
use Rattle.ds_model.specs.FirstRule.{unless, first_rule}
use Rattle.ds_model.specs.ProcessRules.{within, within_either, may_send, may_take, may_relabel, may_publish, may_make, can_grant, mailbox_rule, member_limit}
use Rattle.ds_map.specs.Labels.{image}
use Rattle.ds_map.proofs.Sets.{and_first, and_second, each_secret-is, list_all-alike, flows-alike, rising-equal, length-with_member_new}

or_swap : (a b c : Bool) → (a || (b || c)) ≡ (b || (a || c))
or_swap true true c = refl
or_swap true false c = refl
or_swap false b c = refl

or_twice : (a b : Bool) → (a || b) ≡ (a || (a || b))
or_twice true b = refl
or_twice false b = refl

or_group : (a b c : Bool) → ((a || b) || c) ≡ (b || (a || c))
or_group true true c = refl
or_group true false c = refl
or_group false b c = refl

or_false : (a : Bool) → (a || false) ≡ a
or_false true = refl
or_false false = refl

module _ {C D : Type 0} (from : Naming C) (is-from : IsNaming from) (to : Naming D) (is-to : IsNaming to) (f : C → D) where
  -- ---- of any map

  -- an image has the members' images
  pub has-image : (d : D) (xs : List C) → has to d (image to f xs) ≡ has to d (map f xs)
  has-image d xs = has-union to is-to d [] (map f xs)

  pub IsRising-image : (xs : List C) → IsRising to (image to f xs)
  IsRising-image xs = IsRising-union to is-to [] (map f xs) (IsRising-nil to)

  has-map-with_member : (d : D) (x : C) (xs : List C) → has to d (map f (with_member from x xs)) ≡ (to.same d (f x) || has to d (map f xs))
  has-map-with_member d x [] = refl
  has-map-with_member d x (y ∷ ys) = cases (from.compare x y) refl (has-map-with_member d x ys)
    where
      cases : (o : Ordering) → from.compare x y ≡ o → has to d (map f (with_member from x ys)) ≡ (to.same d (f x) || has to d (map f ys)) → has to d (map f (placed o x y ys (with_member from x ys))) ≡ (to.same d (f x) || (to.same d (f y) || has to d (map f ys)))
      cases Less e later = refl
      cases Equal e later = subst (λ z. (to.same d (f y) || has to d (map f ys)) ≡ (to.same d (f z) || (to.same d (f y) || has to d (map f ys)))) (sym (is-from.exact x y e)) (or_twice (to.same d (f y)) (has to d (map f ys)))
      cases Greater e later = ap (λ b. to.same d (f y) || b) later ∙ or_swap (to.same d (f y)) (to.same d (f x)) (has to d (map f ys))

  pub has-map-union : (d : D) (xs ys : List C) → has to d (map f (union from xs ys)) ≡ (has to d (map f xs) || has to d (map f ys))
  has-map-union d xs [] = ap (λ zs. has to d (map f zs)) (union-none from is-from xs) ∙ sym (or_false (has to d (map f xs)))
  has-map-union d xs (y ∷ ys) =
      ap (λ zs. has to d (map f zs)) (union-next from is-from xs ys y)
      ∙ has-map-union d (with_member from y xs) ys
      ∙ ap (λ b. b || has to d (map f ys)) (has-map-with_member d y xs)
      ∙ or_group (to.same d (f y)) (has to d (map f xs)) (has to d (map f ys))

  pub image-with_member : (x : C) (xs : List C) → image to f (with_member from x xs) ≡ with_member to (f x) (image to f xs)
  image-with_member x xs = rising-equal to is-to (image to f (with_member from x xs)) (with_member to (f x) (image to f xs)) (IsRising-image (with_member from x xs)) (IsRising-with_member to is-to (f x) (image to f xs) (IsRising-image xs))
      (λ d. has-image d (with_member from x xs) ∙ has-map-with_member d x xs ∙ ap (λ b. to.same d (f x) || b) (sym (has-image d xs)) ∙ sym (has-with_member to is-to d (f x) (image to f xs)))

  pub image-union : (xs ys : List C) → image to f (union from xs ys) ≡ union to (image to f xs) (image to f ys)
  image-union xs ys = rising-equal to is-to (image to f (union from xs ys)) (union to (image to f xs) (image to f ys)) (IsRising-image (union from xs ys)) (IsRising-union to is-to (image to f xs) (image to f ys) (IsRising-image xs))
      (λ d. has-image d (union from xs ys) ∙ has-map-union d xs ys ∙ sym (has-union to is-to d (image to f xs) (image to f ys) ∙ (λ i. has-image d xs i || has-image d ys i)))

  pub image-none : image to f [] ≡ []
  image-none = union-none to is-to []

-- ---- of a map that tells apart what differs, among what is known

module _ {C D : Type 0} (from : Naming C) (is-from : IsNaming from) (to : Naming D) (is-to : IsNaming to) (f : C → D) (known : C → Bool)
    (alike : (x y : C) → known x ≡ true → known y ≡ true → to.same (f x) (f y) ≡ from.same x y) (kinds : (x : C) → known x ≡ true → to.secret (f x) ≡ from.secret x) where
  Known : C → Type 0
  Known x = known x ≡ true

  all_known : (xs : List C) → list_all known xs ≡ true → AllByRecursion Known xs
  unfolding Known
  all_known [] e = tt
  all_known (x ∷ xs) e = (and_first (known x) (list_all known xs) e, all_known xs (and_second (known x) (list_all known xs) e))

  -- one known category is in an image where it is in the label
  pub has-image_of : (x : C) (xs : List C) → known x ≡ true → list_all known xs ≡ true → has to (f x) (image to f xs) ≡ has from x xs
  unfolding Known
  has-image_of x xs k ks = has-image from is-from to is-to f (f x) xs ∙ has_map from to f Known alike kinds x xs k (all_known xs ks)

  list_all-map : (image_test : D → Bool) (test : C → Bool) (xs : List C) → list_all known xs ≡ true → ((x : C) → known x ≡ true → image_test (f x) ≡ test x) → list_all image_test (map f xs) ≡ list_all test xs
  list_all-map image_test test [] ks each = refl
  list_all-map image_test test (x ∷ xs) ks each =
      let here = each x (and_first (known x) (list_all known xs) ks) in
      let later = list_all-map image_test test xs (and_second (known x) (list_all known xs) ks) each in
      λ i. here i && later i

  -- a test of all of an image is the test of all of the label
  pub list_all-image : (image_test : D → Bool) (test : C → Bool) (xs : List C) → list_all known xs ≡ true → ((x : C) → known x ≡ true → image_test (f x) ≡ test x) → list_all image_test (image to f xs) ≡ list_all test xs
  list_all-image image_test test xs ks each = list_all-alike to is-to image_test (image to f xs) (map f xs) (λ d. has-image from is-from to is-to f d xs) ∙ list_all-map image_test test xs ks each

  pub flows-image : (first second owned : List C) → list_all known first ≡ true → list_all known second ≡ true → list_all known owned ≡ true → flows to (image to f first) (image to f second) (image to f owned) ≡ flows from first second owned
  unfolding Known
  flows-image first second owned ks ls os =
      flows-alike to is-to (image to f first) (image to f second) (image to f owned) (map f first) (map f second) (map f owned)
      (λ d. has-image from is-from to is-to f d first) (λ d. has-image from is-from to is-to f d second) (λ d. has-image from is-from to is-to f d owned)
      ∙ flows_map from to f Known alike kinds first second owned (all_known first ks) (all_known second ls) (all_known owned os)

  pub within-image : (small large : List C) → list_all known small ≡ true → list_all known large ≡ true → within to (image to f small) (image to f large) ≡ within from small large
  within-image small large ks ls = list_all-image (λ d. has to d (image to f large)) (λ c. has from c large) small ks (λ x k. has-image_of x large k ls)

  pub within_either-image : (small one other : List C) → list_all known small ≡ true → list_all known one ≡ true → list_all known other ≡ true → within_either to (image to f small) (image to f one) (image to f other) ≡ within_either from small one other
  within_either-image small one other ks ls ms =
      list_all-image (λ d. has to d (image to f one) || has to d (image to f other)) (λ c. has from c one || has from c other) small ks
      (λ x k. let a = has-image_of x one k ls in let b = has-image_of x other k ms in λ i. a i || b i)

  pub same_label-image : (first second : List C) → list_all known first ≡ true → list_all known second ≡ true → same_label to (image to f first) (image to f second) ≡ same_label from first second
  unfolding same_label
  same_label-image first second ks ls = let a = within-image first second ks ls in let b = within-image second first ls ks in λ i. a i && b i

  -- ---- the rules

  pub may_send-image : (label own clear to_label grant grant_clear : List C) →
      list_all known label ≡ true → list_all known own ≡ true → list_all known clear ≡ true → list_all known to_label ≡ true → list_all known grant ≡ true → list_all known grant_clear ≡ true →
      may_send to (image to f label) (image to f own) (image to f clear) (image to f to_label) (image to f grant) (image to f grant_clear) ≡ may_send from label own clear to_label grant grant_clear
  may_send-image label own clear to_label grant grant_clear ks os cs ts gs hs =
      let flow = flows-image label to_label own ks ts os in
      let owned = within-image grant own gs os in
      let held = within_either-image grant_clear clear own hs cs os in
      λ i. first_rule (unless (flow i) NotFlow ∷ unless (owned i) GrantNotOwned ∷ unless (held i) ClearNotHeld ∷ [])

  pub may_take-image : (box label own : List C) → list_all known box ≡ true → list_all known label ≡ true → list_all known own ≡ true →
      may_take to (image to f box) (image to f label) (image to f own) ≡ may_take from box label own
  may_take-image box label own bs ks os = ap (λ b. unless b NotFlowToTaker) (flows-image box label own bs ks os)

  pub may_relabel-image : (label own clear to_label : List C) → list_all known label ≡ true → list_all known own ≡ true → list_all known clear ≡ true → list_all known to_label ≡ true →
      may_relabel to (image to f label) (image to f own) (image to f clear) (image to f to_label) ≡ may_relabel from label own clear to_label
  may_relabel-image label own clear to_label ks os cs ts =
      let flow = flows-image label to_label own ks ts os in
      let new =
      each_secret-is to (λ d. has to d (image to f label) || (has to d (image to f clear) || has to d (image to f own))) LabelRefused (image to f to_label)
      ∙ ap (λ b. unless b LabelRefused) (list_all-image (λ d. not (to.secret d) || (has to d (image to f label) || (has to d (image to f clear) || has to d (image to f own)))) (λ c. not (from.secret c) || (has from c label || (has from c clear || has from c own))) to_label ts
      (λ x k. let s = kinds x k in let a = has-image_of x label k ks in let b = has-image_of x clear k cs in let e = has-image_of x own k os in λ i. not (s i) || (a i || (b i || e i))))
      ∙ sym (each_secret-is from (λ c. has from c label || (has from c clear || has from c own)) LabelRefused to_label) in
      λ i. first_rule (unless (flow i) LabelRefused ∷ new i ∷ [])

  pub may_publish-image : (label own : List C) → list_all known label ≡ true → list_all known own ≡ true → may_publish to (image to f label) (image to f own) ≡ may_publish from label own
  may_publish-image label own ks os =
      each_secret-is to (λ d. has to d (image to f own)) NotPublic (image to f label)
      ∙ ap (λ b. unless b NotPublic) (list_all-image (λ d. not (to.secret d) || has to d (image to f own)) (λ c. not (from.secret c) || has from c own) label ks
      (λ x k. let s = kinds x k in let a = has-image_of x own k os in λ i. not (s i) || a i))
      ∙ sym (each_secret-is from (λ c. has from c own) NotPublic label)

  pub mailbox_rule-image : (box label : List C) → list_all known box ≡ true → list_all known label ≡ true → mailbox_rule to (Some (image to f box)) (image to f label) ≡ mailbox_rule from (Some box) label
  mailbox_rule-image box label bs ks =
      ap (λ none. unless (flows to (image to f label) (image to f box) none) NotFlowToBox) (sym (image-none from is-from to is-to f))
      ∙ ap (λ b. unless b NotFlowToBox) (flows-image label box [] ks bs refl)

  -- ---- how many members

  -- fresh members make an image longer by as many
  length-union_map : (before : List D) (xs : List C) → IsRising from xs → list_all known xs ≡ true → AllByRecursion (λ x. has to (f x) before ≡ false) xs → length (union to before (map f xs)) ≡ length before + length xs
  unfolding IsStrictlySortedBy
  length-union_map before [] up ks fresh = ap length (union-none to is-to before) ∙ sym (add-zero (length before))
  length-union_map before (x ∷ xs) up ks fresh =
      let here = and_first (known x) (list_all known xs) ks in
      let later = and_second (known x) (list_all known xs) ks in
      ap length (union-next to is-to before (map f xs) (f x))
      ∙ length-union_map (with_member to (f x) before) xs up.1 later (still x xs here later up.0 fresh.1)
      ∙ step (length (with_member to (f x) before)) (length before) (length xs) (length-with_member_new to is-to (f x) before fresh.0)
    where
      step : (a b n : ℕ) → a ≡ suc b → a + n ≡ b + suc n
      step a b n e = omega arith

      still : (x : C) (xs : List C) → known x ≡ true → list_all known xs ≡ true → AllByRecursion (λ y. from.compare x y ≡ Less) xs → AllByRecursion (λ y. has to (f y) before ≡ false) xs → AllByRecursion (λ y. has to (f y) (with_member to (f x) before) ≡ false) xs
      still x [] k ks above old = tt
      still x (y ∷ ys) k ks above old =
          let here = and_first (known y) (list_all known ys) ks in
          let apart : from.same y x ≡ false = is-from.tells y x ∙ ap is_eq (is-from.total.antisymm y x ∙ ap Rattle.std.specs.Ordering.ordering_reverse above.0) in (
            has-with_member to is-to (f y) (f x) before ∙ (λ i. (alike y x here k ∙ apart) i || old.0 i),
            still x ys k (and_second (known y) (list_all known ys) ks) above.1 old.1,
          )

  pub length-image : (xs : List C) → IsRising from xs → list_all known xs ≡ true → length (image to f xs) ≡ length xs
  length-image xs up ks = length-union_map [] xs up ks (none xs) ∙ zero-add (length xs)
    where
      none : (xs : List C) → AllByRecursion (λ x. has to (f x) [] ≡ false) xs
      none [] = tt
      none (x ∷ xs) = (refl, none xs)

  known-union : (xs ys : List C) → list_all known xs ≡ true → list_all known ys ≡ true → list_all known (union from xs ys) ≡ true
  known-union xs ys ks ls = all_from_has from is-from known (union from xs ys) (λ c h. either c (has from c xs) refl (sym (has-union from is-from c xs ys) ∙ h))
    where
      either : (c : C) (b : Bool) → has from c xs ≡ b → (has from c xs || has from c ys) ≡ true → known c ≡ true
      either c true e h = all_has from is-from c known xs ks e
      either c false e h = all_has from is-from c known ys ls (sym (ap (λ b. b || has from c ys) e) ∙ h)

  pub length-union_image : (xs ys : List C) → IsRising from xs → list_all known xs ≡ true → list_all known ys ≡ true → length (union to (image to f xs) (image to f ys)) ≡ length (union from xs ys)
  length-union_image xs ys up ks ls =
      ap length (sym (image-union from is-from to is-to f xs ys)) ∙ length-image (union from xs ys) (IsRising-union from is-from xs ys up) (known-union xs ys ks ls)

  pub can_grant-image : (own clear grant grant_clear : List C) → IsRising from own → IsRising from clear →
      list_all known own ≡ true → list_all known clear ≡ true → list_all known grant ≡ true → list_all known grant_clear ≡ true →
      can_grant to (image to f own) (image to f clear) (image to f grant) (image to f grant_clear) ≡ can_grant from own clear grant grant_clear
  can_grant-image own clear grant grant_clear up rise os cs gs hs =
      let a = length-union_image own grant up os gs in let b = length-union_image clear grant_clear rise cs hs in
      λ i. nat_le (a i) member_limit && nat_le (b i) member_limit

  pub may_make-image : (own : List C) (made : ℕ) (c : C) → IsRising from own → list_all known own ≡ true → known c ≡ true → may_make to (image to f own) made (f c) ≡ may_make from own made c
  may_make-image own made c up os k =
      let a = has-image_of c own k os in let b = length-image own up os in
      λ i. unless ((a i || nat_lt (b i) member_limit) && nat_lt made (2 ^ 32 - 1)) TooMany

  -- ---- differences

  has-map-minus : (d : D) (xs ys : List C) → list_all known xs ≡ true → list_all known ys ≡ true → has to d (map f (minus from xs ys)) ≡ (has to d (map f xs) && not (has to d (map f ys)))
  unfolding minus Known
  has-map-minus d [] ys ks ls = refl
  has-map-minus d (x ∷ xs) ys ks ls =
      cases (has from x ys) (has_map from to f Known alike kinds x ys (and_first (known x) (list_all known xs) ks) (all_known ys ls)) (has-map-minus d xs ys (and_second (known x) (list_all known xs) ks) ls)
    where
      pull : (b : Bool) (zs : List C) → has to d (map f (cond (not b) (x ∷ zs) zs)) ≡ cond (not b) (to.same d (f x) || has to d (map f zs)) (has to d (map f zs))
      pull true zs = refl
      pull false zs = refl

      and_false : (m : Bool) → (m && false) ≡ false
      and_false true = refl
      and_false false = refl

      step : (b s r m h : Bool) → r ≡ (m && not h) → (s ≡ true → h ≡ b) → cond (not b) (s || r) r ≡ ((s || m) && not h)
      step true true r m h later tied = rw (tied refl) (rw (tied refl) at later ∙ and_false m)
      step true false r m h later tied = later
      step false true r m h later tied = rw (tied refl) refl
      step false false r m h later tied = later

      cases : (b : Bool) → has to (f x) (map f ys) ≡ b → has to d (map f (minus from xs ys)) ≡ (has to d (map f xs) && not (has to d (map f ys))) → has to d (map f (cond (not b) (x ∷ minus from xs ys) (minus from xs ys))) ≡ ((to.same d (f x) || has to d (map f xs)) && not (has to d (map f ys)))
      cases b e later = pull b (minus from xs ys) ∙ step b (to.same d (f x)) (has to d (map f (minus from xs ys))) (has to d (map f xs)) (has to d (map f ys)) later (λ s. ap (λ z. has to z (map f ys)) ((same-is to is-to d (f x)).0 s) ∙ e)

  IsRising-minus : (xs ys : List D) → IsRising to xs → IsRising to (minus to xs ys)
  unfolding minus
  IsRising-minus xs ys up = IsStrictlySortedBy-filter to.compare (λ c. not (has to c ys)) xs up

  pub image-minus : (xs ys : List C) → list_all known xs ≡ true → list_all known ys ≡ true → image to f (minus from xs ys) ≡ minus to (image to f xs) (image to f ys)
  image-minus xs ys ks ls = rising-equal to is-to (image to f (minus from xs ys)) (minus to (image to f xs) (image to f ys)) (IsRising-image from is-from to is-to f (minus from xs ys)) (IsRising-minus (image to f xs) (image to f ys) (IsRising-image from is-from to is-to f xs))
      (λ d. has-image from is-from to is-to f d (minus from xs ys) ∙ has-map-minus d xs ys ks ls ∙ sym (has-minus to is-to d (image to f xs) (image to f ys) ∙ (λ i. has-image from is-from to is-to f d xs i && not (has-image from is-from to is-to f d ys i))))

-- ---- and back

pub image-back : {C D : Type 0} (from : Naming C) (is-from : IsNaming from) (to : Naming D) (is-to : IsNaming to) (f : C → D) (g : D → C) (known : C → Bool) → ((x : C) → known x ≡ true → g (f x) ≡ x) →
    (xs : List C) → IsRising from xs → list_all known xs ≡ true → image from g (image to f xs) ≡ xs
image-back {C = C} from is-from to is-to f g known back xs up ks = rising-equal from is-from (image from g (image to f xs)) xs (IsRising-image to is-to from is-from g (image to f xs)) up
    (λ c. has-image to is-to from is-from g c (image to f xs) ∙ has-map-union to is-to from is-from g c [] (map f xs) ∙ ap (has from c) (each xs ks))
  where
    each : (xs : List C) → list_all known xs ≡ true → map g (map f xs) ≡ xs
    each [] e = refl
    each (x ∷ xs) e =
        let here = back x (and_first (known x) (list_all known xs) e) in
        let later = each xs (and_second (known x) (list_all known xs) e) in
        λ i. here i ∷ later i
