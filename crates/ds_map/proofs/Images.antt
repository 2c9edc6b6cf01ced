-- The image of a label, a member at a time.
use Rattle.std.proofs.Common.{◌≡◌, ℕ, suc, ◌+◌, ◌<◌, ◌≤◌, Bool, true, false, ◌&&◌, List, [], ◌∷◌, length, get_or, drop, map, refl, sym, ap, ◌∙◌, arith}
use Rattle.std.specs.Prelude.{All}
use Rattle.std.specs.List.{list_all}
use Rattle.std.specs.declared.cmp.Ordering.{Ordering}
use Rattle.std.specs.declared.cmp.Ordering.TheVariants.{Less, Equal, Greater}
use Rattle.std.proofs.lemmas.Bool.{false≢true}
use Rattle.std.proofs.lemmas.List.{drop_more, drop_all}
use Rattle.std.proofs.lemmas.List.Folds.{list_all_at}
use Rattle.ds_label.specs.Flow.{Naming, placed, with_member, union}
use Rattle.ds_map.proofs.Sets.{and_first}

-- one member more at most
pub with_member_grows : {C : Type 0} (naming : Naming C) (c : C) (xs : List C) → length (with_member naming c xs) ≤ length xs + 1
with_member_grows naming c [] = omega arith
with_member_grows naming c (x ∷ xs) = cases (naming.compare c x) (with_member_grows naming c xs)
  where
    cases : (o : Ordering) → length (with_member naming c xs) ≤ length xs + 1 → length (placed o c x xs (with_member naming c xs)) ≤ suc (length xs) + 1
    cases Less more = omega arith
    cases Equal more = omega arith
    cases Greater more = omega (arith, more)

-- each item of a list of which all pass
pub each_passes : {C : Type 0} (p : C → Bool) (xs : List C) → (list_all p xs && true) ≡ true → All (λ c. p c ≡ true) xs
each_passes p xs e k d below = cases (p (get_or xs k d)) refl
  where
    cases : (b : Bool) → p (get_or xs k d) ≡ b → b ≡ true
    cases true f = refl
    cases false f = absurd (false≢true (sym (list_all_at p xs k d below f) ∙ and_first (list_all p xs) true e))

-- the images of the members from a place on join those before
pub goes_on : {C D : Type 0} (to : Naming D) (f : C → D) (label : List D) (c : C) (rest : List C) → union to label (map f (c ∷ rest)) ≡ union to (with_member to (f c) label) (map f rest)
unfolding union
goes_on to f label c rest = refl

pub is_all : {D : Type 0} (to : Naming D) (label : List D) → union to label [] ≡ label
unfolding union
is_all to label = refl

-- one member more of the image
pub image_step : {C D : Type 0} (to : Naming D) (f : C → D) (xs : List C) (i : ℕ) (d : C) (label new goal : List D) (value : D) → i < length xs → value ≡ f (get_or xs i d) → new ≡ with_member to value label
    → union to label (map f (drop i xs)) ≡ goal → union to new (map f (drop (i + 1) xs)) ≡ goal
image_step {D = D} to f xs i d label new goal value below is_value is_new so_far =
    ap (λ (l : List D). union to l (map f (drop (i + 1) xs))) (is_new ∙ ap (λ (v : D). with_member to v label) is_value)
    ∙ sym (goes_on to f label (get_or xs i d) (drop (i + 1) xs))
    ∙ ap (λ (rest : List _). union to label (map f rest)) (sym (drop_more xs i d below))
    ∙ so_far

-- nothing is left
pub image_done : {C D : Type 0} (to : Naming D) (f : C → D) (xs : List C) (i : ℕ) (label goal : List D) → length xs ≤ i → union to label (map f (drop i xs)) ≡ goal → label ≡ goal
image_done to f xs i label goal over so_far = sym (is_all to label) ∙ ap (λ (rest : List _). union to label (map f rest)) (sym (drop_all i xs over)) ∙ so_far
