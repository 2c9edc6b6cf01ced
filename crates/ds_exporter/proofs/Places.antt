-- A change at one place of a list.
use Rattle.std.proofs.Common.{◌≡◌, ℕ, zero, suc, ◌<◌, List, [], ◌∷◌, Some, length, slice_get, refl, sym, ap, ◌∙◌, subst, arith}
use Rattle.std.specs.Prelude.{map, slice_set, slice_index_or, All, AllPairs}
use Rattle.std.specs.List.{Any}
use Rattle.ds_model.specs.Lists.{at}

-- what is written at a place, seen through a function
pub map_at : {X Y : Type 0} (f : X → Y) (g : Y → Y) (i : ℕ) (xs : List X) (x new : X) → slice_get xs i ≡ Some x → f new ≡ g (f x) → map f (slice_set xs i new) ≡ at i g (map f xs)
map_at f g i [] x new e same = refl
map_at f g zero (y ∷ xs) x new e same = λ j. (same ∙ ap (λ z. g (f z)) (some_same y x e)) j ∷ map f xs
  where
    some_same : {X : Type 0} (a b : X) → Some a ≡ Some b → b ≡ a
    some_same a b p = sym cc
map_at f g (suc i) (y ∷ xs) x new e same = ap (λ ys. f y ∷ ys) (map_at f g i xs x new e same)

pub map_at_here : {X Y : Type 0} (f : X → Y) (g : Y → Y) (i : ℕ) (xs : List X) (d new : X) → i < length xs → f new ≡ g (f (slice_index_or xs i d)) → map f (slice_set xs i new) ≡ at i g (map f xs)
map_at_here f g i [] d new w same = refl
map_at_here f g zero (y ∷ xs) d new w same = λ j. same j ∷ map f xs
map_at_here f g (suc i) (y ∷ xs) d new w same = ap (λ ys. f y ∷ ys) (map_at_here f g i xs d new (omega (arith, w)) same)

-- one that is seen as before
pub map_same : {X Y : Type 0} (f : X → Y) (i : ℕ) (xs : List X) (d new : X) → i < length xs → f new ≡ f (slice_index_or xs i d) → map f (slice_set xs i new) ≡ map f xs
map_same f i [] d new w same = refl
map_same f zero (y ∷ xs) d new w same = λ j. same j ∷ map f xs
map_same f (suc i) (y ∷ xs) d new w same = ap (λ ys. f y ∷ ys) (map_same f i xs d new (omega (arith, w)) same)

-- what holds of each holds of each after a change that keeps it at its place
pub all_at : {X : Type 0} (P : X → Type 0) (i : ℕ) (f : X → X) (xs : List X) → ((x : X) → slice_get xs i ≡ Some x → P x → P (f x)) → All P xs → All P (at i f xs)
all_at P i f [] step a k d w = a k d w
all_at P zero f (x ∷ xs) step a zero d w = step x refl (a zero d (omega arith))
all_at P zero f (x ∷ xs) step a (suc k) d w = a (suc k) d w
all_at P (suc i) f (x ∷ xs) step a zero d w = a zero d (omega arith)
all_at P (suc i) f (x ∷ xs) step a (suc k) d w = all_at P i f xs step (λ j c v. a (suc j) c (omega (arith, v))) k d (omega (arith, w))

-- a change that keeps what a function sees keeps what holds of pairs by what it sees
pub seen_alike : {X Y : Type 0} (g : X → Y) (i : ℕ) (f : X → X) (xs : List X) (k : ℕ) (d : X) → ((x : X) → slice_get xs i ≡ Some x → g (f x) ≡ g x) → g (slice_index_or (at i f xs) k d) ≡ g (slice_index_or xs k d)
seen_alike g i f [] k d same = refl
seen_alike g zero f (x ∷ xs) zero d same = same x refl
seen_alike g zero f (x ∷ xs) (suc k) d same = refl
seen_alike g (suc i) f (x ∷ xs) zero d same = refl
seen_alike g (suc i) f (x ∷ xs) (suc k) d same = seen_alike g i f xs k d same

pub length_at : {X : Type 0} (i : ℕ) (f : X → X) (xs : List X) → length (at i f xs) ≡ length xs
length_at i f [] = refl
length_at zero f (x ∷ xs) = refl
length_at (suc i) f (x ∷ xs) = ap suc (length_at i f xs)

pub pairs_at : {X Y : Type 0} (R : Y → Y → Type 0) (g : X → Y) (i : ℕ) (f : X → X) (xs : List X) → ((x : X) → slice_get xs i ≡ Some x → g (f x) ≡ g x)
    → AllPairs (λ a b. R (g a) (g b)) xs → AllPairs (λ a b. R (g a) (g b)) (at i f xs)
pairs_at R g i f xs same pairs j k d first within =
    let one = seen_alike g i f xs j d same in
    let two = seen_alike g i f xs k d same in
    subst (λ y. R y (g (slice_index_or (at i f xs) k d))) (sym one) (subst (λ y. R (g (slice_index_or xs j d)) y) (sym two) (pairs j k d first (subst (λ n. k < n) (length_at i f xs) within)))

-- what holds of each, of each after a change, as another thing
pub all_at_to : {X : Type 0} (P Q : X → Type 0) (i : ℕ) (f : X → X) (xs : List X) → ((x : X) → P x → Q x) → ((x : X) → slice_get xs i ≡ Some x → P x → Q (f x)) → All P xs → All Q (at i f xs)
all_at_to P Q i f [] more step a k d w = absurd (omega (arith, w))
all_at_to P Q zero f (x ∷ xs) more step a zero d w = step x refl (a zero d (omega arith))
all_at_to P Q zero f (x ∷ xs) more step a (suc k) d w = more _ (a (suc k) d w)
all_at_to P Q (suc i) f (x ∷ xs) more step a zero d w = more _ (a zero d (omega arith))
all_at_to P Q (suc i) f (x ∷ xs) more step a (suc k) d w = all_at_to P Q i f xs more step (λ j c v. a (suc j) c (omega (arith, v))) k d (omega (arith, w))

-- a change at a place, seen through a function, is a change there
pub map_over_at : {X Y : Type 0} (g : X → Y) (i : ℕ) (f : X → X) (h : Y → Y) (xs : List X) → ((x : X) → slice_get xs i ≡ Some x → g (f x) ≡ h (g x)) → map g (at i f xs) ≡ at i h (map g xs)
map_over_at g i f h [] same = refl
map_over_at g zero f h (x ∷ xs) same = λ j. same x refl j ∷ map g xs
map_over_at g (suc i) f h (x ∷ xs) same = ap (λ ys. g x ∷ ys) (map_over_at g i f h xs same)

-- or none
pub map_kept_at : {X Y : Type 0} (g : X → Y) (i : ℕ) (f : X → X) (xs : List X) → ((x : X) → slice_get xs i ≡ Some x → g (f x) ≡ g x) → map g (at i f xs) ≡ map g xs
map_kept_at g i f [] same = refl
map_kept_at g zero f (x ∷ xs) same = λ j. same x refl j ∷ map g xs
map_kept_at g (suc i) f (x ∷ xs) same = ap (λ ys. g x ∷ ys) (map_kept_at g i f xs same)

-- the default makes no difference where something stands
default_same : {X : Type 0} (xs : List X) (k : ℕ) (d c : X) → k < length xs → slice_index_or xs k d ≡ slice_index_or xs k c
default_same [] k d c w = absurd (omega (arith, w))
default_same (x ∷ xs) zero d c w = refl
default_same (x ∷ xs) (suc k) d c w = default_same xs k d c (omega (arith, w))

-- what one has by what a function sees of it, one has after a change that keeps that
pub any_at : {X Y : Type 0} (P : Y → Type 0) (g : X → Y) (i : ℕ) (f : X → X) (xs : List X) → ((x : X) → slice_get xs i ≡ Some x → g (f x) ≡ g x) → Any (λ x. P (g x)) xs → Any (λ x. P (g x)) (at i f xs)
any_at P g i f xs same any =
    let k = any.0 in
    let d = any.1 in
    let within = subst (λ n. k < n) (sym (length_at i f xs)) any.2 in
    let there = slice_index_or (at i f xs) k d in
    (k, there, within, default_same (at i f xs) k there d within, subst P (sym (seen_alike g i f xs k d same ∙ ap g any.3)) any.4)

-- what stands at a place that is there, seen through a function
pub stands : {X Y : Type 0} (g : X → Y) (xs : List X) (i : ℕ) (d : X) → i < length xs → slice_get (map g xs) i ≡ Some (g (slice_index_or xs i d))
stands g [] i d w = absurd (omega (arith, w))
stands g (x ∷ xs) zero d w = refl
stands g (x ∷ xs) (suc i) d w = stands g xs i d (omega (arith, w))

-- what holds of each holds of what stands at a place
pub some_is : {X : Type 0} (x y : X) → Some x ≡ Some y → x ≡ y
some_is x y e = cc

pub all_get : {X : Type 0} (P : X → Type 0) (xs : List X) (i : ℕ) (x : X) → All P xs → slice_get xs i ≡ Some x → P x
all_get P [] i x a e = absurd cc
all_get P (y ∷ xs) zero x a e = subst P (some_is y x e) (a zero x (omega arith))
all_get P (y ∷ xs) (suc i) x a e = all_get P xs i x (λ k d w. a (suc k) d (omega (arith, w))) e

-- what stands there is what is read there
pub stands_now : {X Y : Type 0} (g : X → Y) (xs : List X) (i : ℕ) (now : X) → i < length xs → now ≡ slice_index_or xs i now → slice_get (map g xs) i ≡ Some (g now)
stands_now g xs i now w e = stands g xs i now w ∙ ap (λ x. Some (g x)) (sym e)

-- there is something at a place within
pub there_is : {X : Type 0} (P : Type 0) (xs : List X) (i : ℕ) → i < length xs → ((x : X) → slice_get xs i ≡ Some x → P) → P
there_is P [] i w f = absurd (omega (arith, w))
there_is P (x ∷ xs) zero w f = f x refl
there_is P (x ∷ xs) (suc i) w f = there_is P xs i (omega (arith, w)) f

-- what was written at a place stands there
pub set_stands : {X : Type 0} (xs : List X) (i : ℕ) (new : X) → i < length xs → slice_get (slice_set xs i new) i ≡ Some new
set_stands [] i new w = absurd (omega (arith, w))
set_stands (x ∷ xs) zero new w = refl
set_stands (x ∷ xs) (suc i) new w = set_stands xs i new (omega (arith, w))

-- what is read at a place stands there
pub there_now : {X : Type 0} (xs : List X) (i : ℕ) (now : X) → i < length xs → now ≡ slice_index_or xs i now → slice_get xs i ≡ Some now
there_now [] i now w e = absurd (omega (arith, w))
there_now (x ∷ xs) zero now w e = ap (λ y. Some y) (sym e)
there_now (x ∷ xs) (suc i) now w e = there_now xs i now (omega (arith, w)) e
