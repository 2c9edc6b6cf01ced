-- Lists made by places, an item at a time.
use Rattle.std.proofs.Common.{◌≡◌, ◌≢◌, ℕ, zero, suc, ◌+◌, ◌<◌, ◌≤◌, List, [], ◌∷◌, ◌++◌, length, take, get_or, Some, slice_get, drop, map, refl, sym, ◌∙◌, ap, arith}
use Rattle.std.specs.Prelude.{slice_set}
use Rattle.std.specs.List.{flat_map}
use Rattle.std.proofs.lemmas.List.Concat.{flat_map-append}
use Rattle.std.proofs.lemmas.List.{append_assoc, append-nil, map-append, drop_more, drop_all}
use Rattle.std.proofs.lemmas.Option.{none-some, same_Some}
use Rattle.ds_setup.specs.Lists.{each, joined}
use Rattle.ds_setup.proofs.Places.{inside}

module _ {X Y : Type 0} where
  -- one item more
  pub each_more : (f : ℕ → X → Y) (xs : List X) (i : ℕ) (d : X) → i < length xs → each f (take (i + 1) xs) ≡ each f (take i xs) ++ f i (get_or xs i d) ∷ []
  each_more f [] i d lt = absurd (omega arith)
  each_more f (x ∷ xs) zero d lt = refl
  each_more f (x ∷ xs) (suc i) d lt =
      let next : suc i + 1 ≡ suc (i + 1) = omega arith in
      ap (λ n. each f (take n (x ∷ xs))) next ∙ ap (λ (ys : List Y). f 0 x ∷ ys) (each_more (λ j. f (suc j)) xs i d (omega (arith, lt)))

  -- the same at each place
  pub each_alike : (f g : ℕ → X → Y) (xs : List X) → ((j : ℕ) (x : X) → slice_get xs j ≡ Some x → f j x ≡ g j x) → each f xs ≡ each g xs
  each_alike f g [] same = refl
  each_alike f g (x ∷ xs) same = λ i. same 0 x refl i ∷ each_alike (λ j. f (suc j)) (λ j. g (suc j)) xs (λ j y e. same (suc j) y e) i

  -- another value at one place
  pub each_set : (f g : ℕ → X → Y) (xs : List X) (i : ℕ) (x : X) → slice_get xs i ≡ Some x → ((j : ℕ) (y : X) → slice_get xs j ≡ Some y → j ≢ i → f j y ≡ g j y) → slice_set (each f xs) i (g i x) ≡ each g xs
  each_set f g [] i x e same = absurd (none-some x e)
  each_set f g (y ∷ xs) zero x e same = λ k. g 0 (sym (same_Some y x e) k) ∷ each_alike (λ j. f (suc j)) (λ j. g (suc j)) xs (λ j z q. same (suc j) z q (λ no. omega (arith, no))) k
  each_set f g (y ∷ xs) (suc i) x e same = λ k. same 0 y refl (λ no. omega (arith, no)) k ∷ each_set (λ j. f (suc j)) (λ j. g (suc j)) xs i x e (λ j z q differ. same (suc j) z q (λ no. differ (omega (arith, no)))) k

-- A LOOP'S STEP

pub take_more : {B : Type 0} (ys : List B) (k : ℕ) (y : B) → slice_get ys k ≡ Some y → take (k + 1) ys ≡ take k ys ++ y ∷ []
take_more [] k y e = absurd (none-some y e)
take_more {B} (z ∷ ys) zero y e = ap (λ (w : B). w ∷ []) (same_Some z y e)
take_more {B} (z ∷ ys) (suc k) y e =
    let next : suc k + 1 ≡ suc (k + 1) = omega arith in
    ap (λ n. take n (z ∷ ys)) next ∙ ap (λ (ws : List B). z ∷ ws) (take_more ys k y e)

module _ {A B C : Type 0} where
  -- one item more of a mapped list, of which the rest is to come
  pub map_step : (f : A → C) (g : B → C) (xs : List B) (i : ℕ) (d : B) (items new : List A) (x : A) (y : B) (goal : List C) → i < length xs → new ≡ items ++ x ∷ [] → y ≡ get_or xs i d → f x ≡ g y
      → map f items ++ map g (drop i xs) ≡ goal → map f new ++ map g (drop (i + 1) xs) ≡ goal
  map_step f g xs i d items new x y goal lt is item same so_far =
      ap (λ (ys : List A). map f ys ++ map g (drop (i + 1) xs)) is
      ∙ (ap (λ (ys : List C). ys ++ map g (drop (i + 1) xs)) (map-append f items (x ∷ []))
      ∙ (append_assoc (map f items) (f x ∷ []) (map g (drop (i + 1) xs))
      ∙ (ap (λ (y : C). map f items ++ y ∷ map g (drop (i + 1) xs)) (same ∙ ap g item)
      ∙ (ap (λ (ys : List B). map f items ++ map g ys) (sym (drop_more xs i d lt)) ∙ so_far))))

  -- one item more of a list by places
  pub each_step : (f : A → C) (g : ℕ → B → C) (xs : List B) (i : ℕ) (d : B) (items new : List A) (x : A) (y : B) → i < length xs → new ≡ items ++ x ∷ [] → y ≡ get_or xs i d → f x ≡ g i y
      → map f items ≡ each g (take i xs) → map f new ≡ each g (take (i + 1) xs)
  each_step f g xs i d items new x y lt is item same so_far =
      ap (λ (ys : List A). map f ys) is
      ∙ (map-append f items (x ∷ [])
      ∙ (ap (λ (y : C). map f items ++ y ∷ []) (same ∙ ap (g i) item)
      ∙ (ap (λ (ys : List C). ys ++ g i (get_or xs i d) ∷ []) so_far ∙ sym (each_more g xs i d lt))))

module _ {X : Type 0} where
  pub joined-append : (xs ys : List (List X)) → joined (xs ++ ys) ≡ joined xs ++ joined ys
  joined-append [] ys = refl
  joined-append (x ∷ xs) ys = ap (λ (zs : List X). x ++ zs) (joined-append xs ys) ∙ sym (append_assoc x (joined xs) (joined ys))

module _ {X Y : Type 0} where
  -- one list more of those by places
  pub joined_more : (f : ℕ → Y → List X) (xs : List Y) (i : ℕ) (d : Y) → i < length xs → joined (each f (take (i + 1) xs)) ≡ joined (each f (take i xs)) ++ f i (get_or xs i d)
  joined_more f xs i d lt =
      ap (λ (ys : List (List X)). joined ys) (each_more f xs i d lt)
      ∙ (joined-append (each f (take i xs)) (f i (get_or xs i d) ∷ [])
      ∙ ap (λ (ys : List X). joined (each f (take i xs)) ++ ys) (append-nil (f i (get_or xs i d))))

  pub joined_step : (f : ℕ → Y → List X) (xs : List Y) (i : ℕ) (d y : Y) (first before after : List X) → i < length xs → y ≡ get_or xs i d → after ≡ before ++ f i y → before ≡ first ++ joined (each f (take i xs))
      → after ≡ first ++ joined (each f (take (i + 1) xs))
  joined_step f xs i d y first before after lt item is so_far =
      (is ∙ ap (λ (z : Y). before ++ f i z) item)
      ∙ (ap (λ (ys : List X). ys ++ f i (get_or xs i d)) so_far
      ∙ (append_assoc first (joined (each f (take i xs))) (f i (get_or xs i d)) ∙ ap (λ (ys : List X). first ++ ys) (sym (joined_more f xs i d lt))))

-- one item more of a mapped list, of which the item is known by its place
pub map_more : {A B C : Type 0} (f : A → C) (g : B → C) (xs : List B) (i : ℕ) (items new : List A) (x : A) → ((y : B) → slice_get xs i ≡ Some y → f x ≡ g y) → i < length xs → new ≡ items ++ x ∷ []
    → map f items ≡ map g (take i xs) → map f new ≡ map g (take (i + 1) xs)
map_more {A} {B} {C} f g xs i items new x at lt is so_far =
    let y : (y : B) × (slice_get xs i ≡ Some y) = inside xs i lt in
    ap (λ (ys : List A). map f ys) is
    ∙ (map-append f items (x ∷ [])
    ∙ (ap (λ (z : C). map f items ++ z ∷ []) (at y.0 y.1)
    ∙ (ap (λ (ys : List C). ys ++ g y.0 ∷ []) so_far
    ∙ (sym (map-append g (take i xs) (y.0 ∷ [])) ∙ ap (λ (ys : List B). map g ys) (sym (take_more xs i y.0 y.1))))))

-- nothing is left
pub map_all : {A B : Type 0} (g : A → B) (xs : List A) (i : ℕ) (items : List B) → length xs ≤ i → items ++ map g (drop i xs) ≡ map g xs → items ≡ map g xs
map_all {A} {B} g xs i items over so_far = sym (append-nil items) ∙ (ap (λ (ys : List A). items ++ map g ys) (sym (drop_all i xs over)) ∙ so_far)

pub there_at : {A : Type 0} (xs : List A) (i : ℕ) (d : A) → i < length xs → slice_get xs i ≡ Some (get_or xs i d)
there_at [] i d lt = absurd (omega arith)
there_at (x ∷ xs) zero d lt = refl
there_at (x ∷ xs) (suc i) d lt = there_at xs i d (omega (arith, lt))

-- one item more of a list by places, as it is
pub each_grows : {B C : Type 0} (g : ℕ → B → C) (xs : List B) (i : ℕ) (d : B) (items new : List C) (y : B) → i < length xs → new ≡ items ++ g i y ∷ [] → y ≡ get_or xs i d → items ≡ each g (take i xs) → new ≡ each g (take (i + 1) xs)
each_grows {B} {C} g xs i d items new y lt is item so_far =
    is ∙ (ap (λ (z : B). items ++ g i z ∷ []) item ∙ (ap (λ (ys : List C). ys ++ g i (get_or xs i d) ∷ []) so_far ∙ sym (each_more g xs i d lt)))

-- one item's list more
pub flat_grows : {B C : Type 0} (g : B → List C) (xs : List B) (i : ℕ) (d : B) (items new : List C) (y : B) → i < length xs → new ≡ items ++ g y → y ≡ get_or xs i d → items ≡ flat_map g (take i xs) → new ≡ flat_map g (take (i + 1) xs)
flat_grows {B} {C} g xs i d items new y lt is item so_far =
    is ∙ (ap (λ (z : B). items ++ g z) item ∙ (ap (λ (ys : List C). ys ++ g (get_or xs i d)) so_far
    ∙ (ap (λ (zs : List C). flat_map g (take i xs) ++ zs) (sym (append-nil (g (get_or xs i d))))
    ∙ (sym (flat_map-append g (take i xs) (get_or xs i d ∷ [])) ∙ ap (λ (ys : List B). flat_map g ys) (sym (take_more xs i (get_or xs i d) (there_at xs i d lt)))))))

-- what stands behind a place that was written
pub behind_set : {A : Type 0} (xs : List A) (i j : ℕ) (v : A) → i + 1 ≤ j → slice_get (slice_set xs i v) j ≡ slice_get xs j
behind_set [] i j v le = refl
behind_set (x ∷ xs) i zero v le = absurd (omega (arith, le))
behind_set (x ∷ xs) zero (suc j) v le = refl
behind_set (x ∷ xs) (suc i) (suc j) v le = behind_set xs i j v (omega (arith, le))

pub length_set : {A : Type 0} (xs : List A) (i : ℕ) (v : A) → length (slice_set xs i v) ≡ length xs
length_set [] i v = refl
length_set (x ∷ xs) zero v = refl
length_set (x ∷ xs) (suc i) v = ap suc (length_set xs i v)

-- one item more of a mapped list behind others
pub map_grows : {B C : Type 0} (g : B → C) (xs : List B) (i : ℕ) (d : B) (first items new : List C) (y : B) → i < length xs → new ≡ items ++ g y ∷ [] → y ≡ get_or xs i d → items ≡ first ++ map g (take i xs) → new ≡ first ++ map g (take (i + 1) xs)
map_grows {B} {C} g xs i d first items new y lt is item so_far =
    is ∙ (ap (λ (z : B). items ++ g z ∷ []) item ∙ (ap (λ (ys : List C). ys ++ g (get_or xs i d) ∷ []) so_far
    ∙ (append_assoc first (map g (take i xs)) (g (get_or xs i d) ∷ [])
    ∙ ap (λ (ys : List C). first ++ ys) (sym (map-append g (take i xs) (get_or xs i d ∷ [])) ∙ ap (λ (ys : List B). map g ys) (sym (take_more xs i (get_or xs i d) (there_at xs i d lt)))))))

pub flat_is_joined : {B C : Type 0} (g : B → List C) (xs : List B) → flat_map g xs ≡ joined (map g xs)
flat_is_joined g [] = refl
flat_is_joined {B} {C} g (x ∷ xs) = ap (λ (ys : List C). g x ++ ys) (flat_is_joined g xs)

-- what is left of a list by places begins with this one
pub each_next : {X Y : Type 0} (f : ℕ → X → Y) (xs : List X) (i : ℕ) (d : X) → i < length xs → drop i (each f xs) ≡ f i (get_or xs i d) ∷ drop (i + 1) (each f xs)
each_next f [] i d lt = absurd (omega arith)
each_next f (x ∷ xs) zero d lt = refl
each_next f (x ∷ xs) (suc i) d lt =
    let next : suc i + 1 ≡ suc (i + 1) = omega arith in
    each_next (λ j. f (suc j)) xs i d (omega (arith, lt)) ∙ ap (λ n. f (suc i) (get_or xs i d) ∷ drop n (each f (x ∷ xs))) (sym next)

pub some_left : {X Y : Type 0} (f : ℕ → X → Y) (xs : List X) (i : ℕ) (d : X) (left : List Y) → i < length xs → left ≡ drop i (each f xs) → 0 < length left
some_left {X} {Y} f xs i d left lt is =
    let size : length left ≡ suc (length (drop (i + 1) (each f xs))) = ap (λ (ys : List Y). length ys) (is ∙ each_next f xs i d lt) in
    omega (arith, size)

pub next_of_each : {X Y : Type 0} (f : ℕ → X → Y) (xs : List X) (i : ℕ) (d y : X) (first : Y) (left rest : List Y) → i < length xs → y ≡ get_or xs i d → left ≡ first ∷ rest → left ≡ drop i (each f xs) → first ≡ f i y
next_of_each {X} {Y} f xs i d y first left rest lt item taken is =
    ap (λ (ys : List Y). get_or ys 0 first) (sym taken ∙ (is ∙ each_next f xs i d lt)) ∙ ap (f i) (sym item)

pub rest_of_each : {X Y : Type 0} (f : ℕ → X → Y) (xs : List X) (i : ℕ) (d : X) (first : Y) (left rest : List Y) → i < length xs → left ≡ first ∷ rest → left ≡ drop i (each f xs) → rest ≡ drop (i + 1) (each f xs)
rest_of_each {X} {Y} f xs i d first left rest lt taken is = ap (λ (ys : List Y). drop 1 ys) (sym taken ∙ (is ∙ each_next f xs i d lt))
