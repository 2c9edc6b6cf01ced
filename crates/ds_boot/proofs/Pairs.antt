-- What holds of each two things of a list, by their places.
use Rattle.std.proofs.Common.{◌≡◌, ℕ, zero, suc, ◌+◌, ◌<◌, Bool, true, List, [], ◌∷◌, ◌++◌, length, map, get_or, Some, slice_get, refl, sym, subst, arith, ◌⊎◌, inl, inr}
use Rattle.std.specs.List.{AllPairs}
use Rattle.std.proofs.lemmas.Option.{none-some, get_or_from_slice_get}
use Rattle.ds_plan.specs.Documents.{are_different}
use Rattle.ds_setup.specs.Lists.{each, joined}
use Rattle.ds_setup.proofs.Places.{from_each, from_map, inside, one_place}
use Rattle.ds_setup.proofs.Numbers.{in_either}

abbrev pub Pairs : {X : Type 0} → (X → X → Type 0) → List X → Type 0
Pairs {X} R xs = (i j : ℕ) (x y : X) → i < j → slice_get xs i ≡ Some x → slice_get xs j ≡ Some y → R x y

pub all_pairs : {X : Type 0} (R : X → X → Type 0) (xs : List X) → Pairs R xs → AllPairs R xs
all_pairs {X} R xs pairs i j d lt below =
    let x : (x : X) × (slice_get xs i ≡ Some x) = inside xs i (omega (arith, lt, below)) in
    let y : (y : X) × (slice_get xs j ≡ Some y) = inside xs j below in
    subst (λ (z : X). R z (get_or xs j d)) (sym (get_or_from_slice_get xs i x.0 d x.1)) (subst (λ (z : X). R x.0 z) (sym (get_or_from_slice_get xs j y.0 d y.1)) (pairs i j x.0 y.0 lt x.1 y.1))

pub pairs_map : {X Y : Type 0} (R : Y → Y → Type 0) (f : X → Y) (xs : List X) → ((i j : ℕ) (x y : X) → i < j → slice_get xs i ≡ Some x → slice_get xs j ≡ Some y → R (f x) (f y)) → Pairs R (map f xs)
pairs_map {X} {Y} R f xs pairs i j x y lt e q =
    let a : (a : X) × (slice_get xs i ≡ Some a) × (f a ≡ x) = from_map f xs i x e in
    let b : (b : X) × (slice_get xs j ≡ Some b) × (f b ≡ y) = from_map f xs j y q in
    subst (λ (z : Y). R z y) a.2 (subst (λ (z : Y). R (f a.0) z) b.2 (pairs i j a.0 b.0 lt a.1 b.1))

pub pairs_each : {X Y : Type 0} (R : Y → Y → Type 0) (f : ℕ → X → Y) (xs : List X) → ((i j : ℕ) (x y : X) → i < j → slice_get xs i ≡ Some x → slice_get xs j ≡ Some y → R (f i x) (f j y)) → Pairs R (each f xs)
pairs_each {X} {Y} R f xs pairs i j x y lt e q =
    let a : (a : X) × (slice_get xs i ≡ Some a) × (f i a ≡ x) = from_each f xs i x e in
    let b : (b : X) × (slice_get xs j ≡ Some b) × (f j b ≡ y) = from_each f xs j y q in
    subst (λ (z : Y). R z y) a.2 (subst (λ (z : Y). R (f i a.0) z) b.2 (pairs i j a.0 b.0 lt a.1 b.1))

-- two lists, one behind the other
pub pairs_append : {X : Type 0} (R : X → X → Type 0) (xs ys : List X) → Pairs R xs → Pairs R ys → ((i j : ℕ) (x y : X) → slice_get xs i ≡ Some x → slice_get ys j ≡ Some y → R x y) → Pairs R (xs ++ ys)
pairs_append R [] ys p q cross i j x y lt e f = q i j x y lt e f
pairs_append R (z ∷ xs) ys p q cross i zero x y lt e f = absurd (omega (arith, lt))
pairs_append {X} R (z ∷ xs) ys p q cross zero (suc j) x y lt e f = go (in_either xs ys j y f)
  where
    go : (slice_get xs j ≡ Some y) ⊎ ((i : ℕ) × (j ≡ length xs + i) × (slice_get ys i ≡ Some y)) → R x y
    go (inl at) = p 0 (suc j) x y (omega arith) e at
    go (inr (k, same, at)) = cross 0 k x y e at
pairs_append R (z ∷ xs) ys p q cross (suc i) (suc j) x y lt e f =
    pairs_append R xs ys (λ a b v w less at there. p (suc a) (suc b) v w (omega (arith, less)) at there) q (λ a b v w at there. cross (suc a) b v w at there) i j x y (omega (arith, lt)) e f

-- where a thing of joined lists stands
pub record InJoined {X : Type 0} (xss : List (List X)) (x : X) : Type 0 where
  pub h : ℕ
  pub l : ℕ
  pub xs : List X
  pub list : slice_get xss h ≡ Some xs
  pub here : slice_get xs l ≡ Some x

pub in_joined : {X : Type 0} (xss : List (List X)) (k : ℕ) (x : X) → slice_get (joined xss) k ≡ Some x → InJoined xss x
in_joined [] k x e = absurd (none-some x e)
in_joined {X} (xs ∷ xss) k x e = go (in_either xs (joined xss) k x e) (λ i at. in_joined xss i x at)
  where
    go : (slice_get xs k ≡ Some x) ⊎ ((i : ℕ) × (k ≡ length xs + i) × (slice_get (joined xss) i ≡ Some x)) → ((i : ℕ) → slice_get (joined xss) i ≡ Some x → InJoined xss x) → InJoined (xs ∷ xss) x
    go (inl at) later = record { h = 0; l = k; xs = xs; list = refl; here = at }
    go (inr (i, same, at)) later = let j = later i at in record { h = suc j.h; l = j.l; xs = j.xs; list = j.list; here = j.here }

-- all lists, one behind the other
pub pairs_joined : {X : Type 0} (R : X → X → Type 0) (xss : List (List X)) → ((h : ℕ) (xs : List X) → slice_get xss h ≡ Some xs → Pairs R xs) →
    ((h g i j : ℕ) (xs ys : List X) (x y : X) → h < g → slice_get xss h ≡ Some xs → slice_get xss g ≡ Some ys → slice_get xs i ≡ Some x → slice_get ys j ≡ Some y → R x y) → Pairs R (joined xss)
pairs_joined R [] own cross = λ i j x y lt e q. absurd (none-some x e)
pairs_joined {X} R (xs ∷ xss) own cross = pairs_append R xs (joined xss) (own 0 xs refl)
    (pairs_joined R xss (λ h ys at. own (suc h) ys at) (λ h g i j ys zs x y lt at there one two. cross (suc h) (suc g) i j ys zs x y (omega (arith, lt)) at there one two))
    (λ i j x y e q. let k = in_joined xss j y q in cross 0 (suc k.h) i k.l xs k.xs x y (omega arith) refl k.list e k.here)

-- what is the same stands once
pub differ : {X : Type 0} (same : X → X → Bool) (xs : List X) (i j : ℕ) (x y : X) → are_different same xs ≡ true → i < j → slice_get xs i ≡ Some x → slice_get xs j ≡ Some y → same x y ≡ true → same y x ≡ true → ⊥
differ same xs i j x y new lt e q one two = let is : i ≡ j = one_place same xs i j x y new e q one two in omega (arith, is, lt)
