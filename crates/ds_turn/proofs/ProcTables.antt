-- Tables that have the numbers of usable names, as a name comes to these.
use Rattle.std.proofs.Common.{◌≡◌, ℕ, zero, suc, ◌+◌, ◌-◌, ◌*◌, Bool, true, false, cond, not, ◌&&◌, ◌||◌, List, [], ◌∷◌, ◌++◌, Some, None, take, drop, refl, sym, ap, subst, ◌∙◌, arith}
use Rattle.std.specs.Prelude.{◌≢◌, ◌^◌, ◌==◌}
use Rattle.std.specs.List.{list_all}
use Rattle.std.specs.Prelude.{bytes_eq}
use Rattle.std.proofs.lemmas.Slice.Eq.{bytes_eq-Decides}
use Rattle.std.proofs.lemmas.Bool.Decides.{nat_tests}
use Rattle.ds_label.specs.declared.category.PubKey.{PubKey}
use Rattle.ds_label.specs.declared.category.Kind.{Kind}
use Rattle.ds_label.specs.declared.category.Kind.TheVariants.{Secrecy, Integrity}
use Rattle.ds_label.specs.declared.category.Category.{Category}
use Rattle.ds_label.specs.Names.{same_category, by_name}
use Rattle.ds_label.specs.Flow.{has}
use Rattle.ds_label.specs.contracts.category.CategoryPartialEq.TheImpl as equal_category
use Rattle.ds_label.proofs.Derived.{categories_eq}
use Rattle.ds_label.proofs.Namings.{names}
use Rattle.ds_label.proofs.Members.{same-is}
use Rattle.ds_script.specs.declared.usable.Usable.{Usable}
use Rattle.ds_script.specs.contracts.usable.UsablePartialEq.TheImpl as equal
use Rattle.ds_model.specs.Mapping.{home_number, is_home, is_known, kind_number, number_of, row_of, to_number}
use Rattle.ds_map.proofs.Sets.{and_first, and_second}
use Rattle.ds_actor.specs.Usable.{IsAgreed}
use Rattle.ds_actor.specs.Asking.{HasTable}
use Rattle.ds_actor.proofs.Usables.{home_known, numbered_is}
use Rattle.ds_turn.specs.ProcNames.{HasNumber, has_home_number, leaves_number}
use lib.Pointwise.{pointwise}

same_number : (a b : ℕ) → (a == b) ≡ true → a ≡ b
same_number a b e = grind (arith, nat_tests)

-- NAMES OF CATEGORIES THAT THE HOST MADE

home_agreed : (here : PubKey) (rows : List Category) (us : List Usable) → list_all (has_home_number here) us ≡ true → IsAgreed here rows us
home_agreed here rows [] e = tt
home_agreed here rows (u ∷ us) e =
    let first = and_first (has_home_number here u) (list_all (has_home_number here) us) e in
    let home = and_first (is_home here u.category) (home_number u.category == u.local) first in
    let number = same_number (home_number u.category) u.local (and_second (is_home here u.category) (home_number u.category == u.local) first) in (
      home_known here rows u.category home ∙ ap (λ (n : ℕ). Some n) number,
      home_agreed here rows us (and_second (has_home_number here u) (list_all (has_home_number here) us) e),
    )

agreed_both : (here : PubKey) (rows : List Category) (us vs : List Usable) → IsAgreed here rows us → IsAgreed here rows vs → IsAgreed here rows (us ++ vs)
agreed_both here rows [] vs a b = b
agreed_both here rows (u ∷ us) vs a b = (a.0, agreed_both here rows us vs a.1 b)

pub table_went_on : (here : PubKey) (before more after : List Usable) → after ≡ before ++ more → list_all (has_home_number here) more ≡ true → HasTable here before → HasTable here after
table_went_on here before more after is e (rows, agreed) =
    (rows, subst (IsAgreed here rows) (sym is) (agreed_both here rows before more agreed (home_agreed here rows more e)))

-- A CATEGORY AT A ROW

-- the rows with the category at this one, and the filler in its stead before, and where there was none
abbrev placed : (c filler : Category) → (row : ℕ) → List Category → List Category
placed c filler zero [] = c ∷ []
placed c filler zero (d ∷ rows) = c ∷ rows
placed c filler (suc r) [] = filler ∷ placed c filler r []
placed c filler (suc r) (d ∷ rows) = cond (same_category c d) filler d ∷ placed c filler r rows

itself : (c : Category) → same_category c c ≡ true
itself c = (same-is by_name names c c).1 refl

equals : (c d : Category) → same_category c d ≡ true → c ≡ d
equals c d = (same-is by_name names c d).0

-- a test that two things decide apart
apart : (c d : Category) → (same_category c d ≡ true → ⊥) → same_category c d ≡ false
apart c d never = go (same_category c d) refl
  where
    go : (b : Bool) → same_category c d ≡ b → b ≡ false
    go true e = absurd (never e)
    go false e = refl

true_false : (b : Bool) → b ≡ true → b ≡ false → ⊥
true_false true e f = cc
true_false false e f = cc

module _ (here : PubKey) (c filler : Category) (foreign : is_home here c ≡ false) (home : is_home here filler ≡ true) where
  -- no foreign category is the filler
  unfilled : (u : Category) → is_home here u ≡ false → same_category u filler ≡ false
  unfilled u out = apart u filler (λ e. true_false (is_home here u) (ap (is_home here) (equals u filler e) ∙ home) out)

  abbrev head : Category → Category
  head d = cond (same_category c d) filler d

  -- before its row the category doesn't stand
  not_head : (d : Category) → same_category c (head d) ≡ false
  not_head d = go (same_category c d) refl
    where
      go : (b : Bool) → same_category c d ≡ b → same_category c (cond b filler d) ≡ false
      go true e = unfilled c foreign
      go false e = e

  stands : (row : ℕ) (rows : List Category) → (has by_name c (placed c filler row rows) ≡ true) × (row_of c (placed c filler row rows) ≡ row)
  stands zero [] = (ap (λ b. b || false) (itself c), ap (λ b. cond b 0 1) (itself c))
  stands zero (d ∷ rows) = (ap (λ b. b || has by_name c rows) (itself c), ap (λ b. cond b 0 (suc (row_of c rows))) (itself c))
  stands (suc r) [] =
      let rest = stands r [] in (
        ap (λ b. b || has by_name c (placed c filler r [])) (unfilled c foreign) ∙ rest.0,
        ap (λ b. cond b 0 (suc (row_of c (placed c filler r [])))) (unfilled c foreign) ∙ ap suc rest.1,
      )
  stands (suc r) (d ∷ rows) =
      let rest = stands r rows in (
        ap (λ b. b || has by_name c (placed c filler r rows)) (not_head d) ∙ rest.0,
        ap (λ b. cond b 0 (suc (row_of c (placed c filler r rows)))) (not_head d) ∙ ap suc rest.1,
      )

  -- ANOTHER FOREIGN CATEGORY

  module _ (u : Category) (other : same_category u c ≡ false) (out : is_home here u ≡ false) where
    -- where it stands its row doesn't become the filler
    same_head : (d : Category) → same_category u (head d) ≡ same_category u d
    same_head d = go (same_category c d) refl
      where
        differs : same_category c d ≡ true → same_category u d ≡ false
        differs e = subst (λ (x : Category). same_category u x ≡ false) (equals c d e) other

        go : (b : Bool) → same_category c d ≡ b → same_category u (cond b filler d) ≡ same_category u d
        go true e = unfilled u out ∙ sym (differs e)
        go false e = refl

    -- it keeps its row, which isn't this one
    keeps : (row : ℕ) (rows : List Category) → has by_name u rows ≡ true → row_of u rows ≢ row
        → (has by_name u (placed c filler row rows) ≡ true) × (row_of u (placed c filler row rows) ≡ row_of u rows)
    keeps zero [] known never = absurd cc
    keeps zero (d ∷ rows) known never = go (same_category u d) refl
      where
        go : (b : Bool) → same_category u d ≡ b → ((same_category u c || has by_name u rows) ≡ true) × (cond (same_category u c) 0 (suc (row_of u rows)) ≡ cond (same_category u d) 0 (suc (row_of u rows)))
        go true e = absurd (never (ap (λ b. cond b 0 (suc (row_of u rows))) e))
        go false e = (
          ap (λ b. b || has by_name u rows) other ∙ (sym (ap (λ b. b || has by_name u rows) e) ∙ known),
          ap (λ b. cond b 0 (suc (row_of u rows))) other ∙ sym (ap (λ b. cond b 0 (suc (row_of u rows))) e),
        )
    keeps (suc r) [] known never = absurd cc
    keeps (suc r) (d ∷ rows) known never = go (same_category u d) refl (keeps r rows)
      where
        go : (b : Bool) → same_category u d ≡ b
            → (has by_name u rows ≡ true → row_of u rows ≢ r → (has by_name u (placed c filler r rows) ≡ true) × (row_of u (placed c filler r rows) ≡ row_of u rows))
            → ((same_category u (head d) || has by_name u (placed c filler r rows)) ≡ true)
            × (cond (same_category u (head d)) 0 (suc (row_of u (placed c filler r rows))) ≡ cond (same_category u d) 0 (suc (row_of u rows)))
        go true e later = (
          ap (λ b. b || has by_name u (placed c filler r rows)) (same_head d ∙ e),
          ap (λ b. cond b 0 (suc (row_of u (placed c filler r rows)))) (same_head d ∙ e) ∙ sym (ap (λ b. cond b 0 (suc (row_of u rows))) e),
        )
        go false e later =
            let rest = later (sym (ap (λ b. b || has by_name u rows) e) ∙ known) (λ q. never (ap (λ b. cond b 0 (suc (row_of u rows))) e ∙ ap suc q)) in (
              ap (λ b. b || has by_name u (placed c filler r rows)) (same_head d ∙ e) ∙ rest.0,
              ap (λ b. cond b 0 (suc (row_of u (placed c filler r rows)))) (same_head d ∙ e) ∙ (ap suc rest.1 ∙ sym (ap (λ b. cond b 0 (suc (row_of u rows))) e)),
            )

-- A NUMBER

-- a known foreign category has a row
foreign_known : (here : PubKey) (rows : List Category) (u : Category) → is_home here u ≡ false → is_known here rows u ≡ true → has by_name u rows ≡ true
foreign_known here rows u out known = sym (ap (λ b. b || has by_name u rows) out) ∙ known

foreign_number : (here : PubKey) (rows : List Category) (u : Category) → is_home here u ≡ false → number_of here rows u ≡ 2 ^ 63 + 2 * row_of u rows + kind_number u.kind
foreign_number here rows u out = ap (λ b. cond b (home_number u) (2 ^ 63 + 2 * row_of u rows + kind_number u.kind)) out

to_foreign : (here : PubKey) (rows : List Category) (u : Category) → is_home here u ≡ false → has by_name u rows ≡ true → to_number here rows u ≡ Some (2 ^ 63 + 2 * row_of u rows + kind_number u.kind)
to_foreign here rows u out known =
    ap (λ b. cond b (Some (number_of here rows u)) None) (ap (λ b. b || has by_name u rows) out ∙ known) ∙ ap (λ (n : ℕ). Some n) (foreign_number here rows u out)

-- a number of the row that begins with `even` is one of its two
two_numbers : (k : Kind) (even base row local : ℕ) → even ≡ base + 2 * row → local ≡ base + 2 * row + kind_number k → (local ≡ even → ⊥) → (local ≡ even + 1 → ⊥) → ⊥
two_numbers Secrecy even base row local e f one two = one (omega (arith, e, f))
two_numbers Integrity even base row local e f one two = two (omega (arith, e, f))

not_same : (a b : ℕ) → not (a == b) ≡ true → a ≡ b → ⊥
not_same a b e f = grind (arith, nat_tests)

module _ (here : PubKey) (c filler : Category) (foreign : is_home here c ≡ false) (home : is_home here filler ≡ true) (rows : List Category) (number even row : ℕ)
    (is : number ≡ 2 ^ 63 + 2 * row + kind_number c.kind) (begins : even ≡ 2 ^ 63 + 2 * row) where
  abbrev after : List Category
  after = placed c filler row rows

  now_numbered : to_number here after c ≡ Some number
  now_numbered =
      let there = stands here c filler foreign home row rows in
      to_foreign here after c foreign there.0 ∙ ap (λ (n : ℕ). Some n) (ap (λ (r : ℕ). 2 ^ 63 + 2 * r + kind_number c.kind) there.1 ∙ sym is)

  -- a foreign name keeps its number
  foreign_kept : (u : Usable) → same_category u.category c ≡ false → is_home here u.category ≡ false → to_number here rows u.category ≡ Some u.local
      → (not (u.local == even) && not (u.local == even + 1)) ≡ true → to_number here after u.category ≡ Some u.local
  foreign_kept u other out e test =
      let at = numbered_is here rows u.category u.local e in
      let known = foreign_known here rows u.category out at.0 in
      let local = sym at.1 ∙ foreign_number here rows u.category out in
      let never : row_of u.category rows ≢ row = λ q. two_numbers u.category.kind even (2 ^ 63) row u.local begins (local ∙ ap (λ (r : ℕ). 2 ^ 63 + 2 * r + kind_number u.category.kind) q)
      (not_same u.local even (and_first (not (u.local == even)) (not (u.local == even + 1)) test))
      (not_same u.local (even + 1) (and_second (not (u.local == even)) (not (u.local == even + 1)) test)) in
      let kept = keeps here c filler foreign home u.category other out row rows known never in
      to_foreign here after u.category out kept.0 ∙ ap (λ (n : ℕ). Some n) (ap (λ (r : ℕ). 2 ^ 63 + 2 * r + kind_number u.category.kind) kept.1 ∙ sym local)

  some_is : (a b : ℕ) → Some a ≡ Some b → a ≡ b
  some_is a b e = cc

  name_kept : (u : Usable) → to_number here rows u.category ≡ Some u.local → leaves_number here c number even u ≡ true → to_number here after u.category ≡ Some u.local
  name_kept u e test = go (same_category u.category c) refl test
    where
      go : (b : Bool) → same_category u.category c ≡ b → cond b (u.local == number) (is_home here u.category || (not (u.local == even) && not (u.local == even + 1))) ≡ true
          → to_number here after u.category ≡ Some u.local
      go true same t = ap (to_number here after) (equals u.category c same) ∙ (now_numbered ∙ ap (λ (n : ℕ). Some n) (sym (same_number u.local number t)))
      go false other t = by_home (is_home here u.category) refl t
        where
          by_home : (h : Bool) → is_home here u.category ≡ h → (h || (not (u.local == even) && not (u.local == even + 1))) ≡ true → to_number here after u.category ≡ Some u.local
          by_home true own q = home_known here after u.category own ∙ (sym (home_known here rows u.category own) ∙ e)
          by_home false out q = foreign_kept u other out e q

  names_kept : (us : List Usable) → IsAgreed here rows us → list_all (leaves_number here c number even) us ≡ true → IsAgreed here after us
  names_kept [] agreed test = tt
  names_kept (u ∷ us) agreed test = (
    name_kept u agreed.0 (and_first (leaves_number here c number even u) (list_all (leaves_number here c number even) us) test),
    names_kept us agreed.1 (and_second (leaves_number here c number even u) (list_all (leaves_number here c number even) us) test),
  )

-- a category that the host made
abbrev own_category : PubKey → Category
own_category here = record { creator = here; kind = Secrecy; number = 0 }

own_home : (here : PubKey) → is_home here (own_category here) ≡ true
own_home here = ap (λ (b : Bool). b && true) (bytes_same here.0)
  where
    bytes_same : (xs : List ℕ) → bytes_eq xs xs ≡ true
    bytes_same xs = (bytes_eq-Decides xs xs).1 refl

pub foreign_numbered : (here : PubKey) (us : List Usable) (c : Category) (number even row : ℕ) → is_home here c ≡ false → number ≡ 2 ^ 63 + 2 * row + kind_number c.kind → even ≡ 2 ^ 63 + 2 * row
    → list_all (leaves_number here c number even) us ≡ true → HasTable here us → HasNumber here us c number
foreign_numbered here us c number even row foreign is begins test (rows, agreed) = (
  placed c (own_category here) row rows,
  names_kept here c (own_category here) foreign (own_home here) rows number even row is begins us agreed test,
  now_numbered here c (own_category here) foreign (own_home here) rows number even row is begins,
)

pub home_numbered : (here : PubKey) (us : List Usable) (c : Category) (number : ℕ) → is_home here c ≡ true → (home_number c == number) ≡ true → HasTable here us → HasNumber here us c number
home_numbered here us c number home test (rows, agreed) = (rows, agreed, home_known here rows c home ∙ ap (λ (n : ℕ). Some n) (same_number (home_number c) number test))

-- EQUAL NAMES

usable_is : (u v : Usable) → (equal.ghosts).eq u v ≡ true → u ≡ v
usable_is u v e =
    let first = and_first ((equal_category.ghosts).eq u.category v.category) (u.local == v.local) e in
    let category = equals u.category v.category (sym (categories_eq u.category v.category) ∙ first) in
    let local = same_number u.local v.local (and_second ((equal_category.ghosts).eq u.category v.category) (u.local == v.local) e) in
    λ i. record { category = category i; local = local i }

pub usables_are : (us vs : List Usable) → pointwise (equal.ghosts).eq us vs ≡ true → us ≡ vs
usables_are [] [] e = refl
usables_are [] (v ∷ vs) e = absurd cc
usables_are (u ∷ us) [] e = absurd cc
usables_are (u ∷ us) (v ∷ vs) e =
    let first = usable_is u v (and_first ((equal.ghosts).eq u v) (pointwise (equal.ghosts).eq us vs) e) in
    let others = usables_are us vs (and_second ((equal.ghosts).eq u v) (pointwise (equal.ghosts).eq us vs) e) in
    λ i. first i ∷ others i

-- a list is its front and what is behind
pub front_and_back : (n : ℕ) (us : List Usable) → us ≡ take n us ++ drop n us
front_and_back zero us = refl
front_and_back (suc n) [] = refl
front_and_back (suc n) (u ∷ us) = ap (λ (vs : List Usable). u ∷ vs) (front_and_back n us)

-- the first number of a row
pub row_begins : (number base row kind parity : ℕ) → number ≡ base + 2 * row + kind → parity ≡ kind → number - parity ≡ base + 2 * row
row_begins number base row kind parity is same = omega (arith, is, same)
