-- What tables keep, and that names and numbers are one-to-one under a table.
use Rattle.std.proofs.Common.{◌≡◌, ◌≢◌, ℕ, zero, suc, ◌+◌, ◌-◌, ◌*◌, ◌/◌, ◌%◌, ◌^◌, ◌<◌, ◌≤◌, length, Bool, true, false, ◌&&◌, ◌||◌, not, cond, List, [], ◌∷◌, ◌++◌, Option, Some, None, refl, sym, ap, ◌∙◌, subst, arith, length-append}
use Rattle.std.specs.Prelude.{nat_lt, nat_le, ◌==◌, slice_get}
use Rattle.std.specs.List.{list_all}
use Rattle.std.proofs.lemmas.Slice.Eq.{bytes_eq-Decides}
use Rattle.std.proofs.lemmas.Bool.Decides.{nat_tests, Decides-eqb}
use Rattle.std.proofs.lemmas.List.Folds.{list_any-append}
use Rattle.ds_label.specs.declared.category.PubKey.{PubKey}
use Rattle.ds_label.specs.declared.category.Category.{Category}
use Rattle.ds_label.specs.declared.category.Kind.{Kind}
use Rattle.ds_label.specs.declared.category.Kind.TheVariants.{Secrecy, Integrity}
use Rattle.ds_label.specs.Flow.{has}
use Rattle.ds_label.specs.Names.{same_category, same_kind, by_name}
use Rattle.ds_label.proofs.Namings.{names}
use Rattle.ds_label.proofs.Members.{same-is}
use Rattle.ds_label.proofs.Flows.{all_has}
use Rattle.ds_model.specs.Keys.{same_key}
use Rattle.ds_model.specs.Mapping.{is_home, is_known, row_of, number_of, to_number, to_name, kind_number, kind_of, if_kind}
use Rattle.ds_map.specs.Table.{IsTable, are_distinct, is_stray}
use Rattle.ds_map.proofs.Rows.{row_of-none}

not_true : (b : Bool) → not b ≡ true → b ≡ false
not_true true e = sym e
not_true false e = refl

not_false : (b : Bool) → b ≡ false → not b ≡ true
not_false true e = sym e
not_false false e = refl

and_both : (a b : Bool) → a ≡ true → b ≡ true → (a && b) ≡ true
and_both a b p q = cc

and_first : (a b : Bool) → (a && b) ≡ true → a ≡ true
and_first true b e = refl
and_first false b e = e

and_second : (a b : Bool) → (a && b) ≡ true → b ≡ true
and_second true b e = e
and_second false b e = absurd cc

or_neither : (a b : Bool) → (a || b) ≡ false → (a ≡ false) × (b ≡ false)
or_neither true b e = absurd cc
or_neither false b e = (refl, e)

-- ---- the rows

-- no row is made by this host
pub foreign_row : (here : PubKey) (rows : List Category) (c : Category) → IsTable here rows → has by_name c rows ≡ true → same_key c.creator here ≡ false
foreign_row here rows c table h = not_true (same_key c.creator here) (all_has by_name names c (λ d. not (same_key d.creator here)) rows table.foreign h)

-- a stray category isn't known
pub stray_unknown : (here : PubKey) (rows : List Category) (c : Category) → IsTable here rows → is_stray here c ≡ true → is_known here rows c ≡ false
stray_unknown here rows c table unmappable_home = cases (has by_name c rows) refl
  where
    own : same_key c.creator here ≡ true
    own = and_first (same_key c.creator here) (nat_le (2 ^ 62) c.number) unmappable_home

    above : (n m : ℕ) → nat_le m n ≡ true → nat_lt n m ≡ false
    above n m e = grind (arith, nat_tests)

    unlike : nat_lt c.number (2 ^ 62) ≡ false
    unlike = above c.number (2 ^ 62) (and_second (same_key c.creator here) (nat_le (2 ^ 62) c.number) unmappable_home)

    and_false : (a b : Bool) → b ≡ false → (a && b) ≡ false
    and_false true b e = e
    and_false false b e = refl

    cases : (b : Bool) → has by_name c rows ≡ b → (is_home here c || b) ≡ false
    cases true e = absurd (differ (sym own ∙ foreign_row here rows c table e))
      where
        differ : true ≡ false → ⊥
        differ f = cc
    cases false e = ap (λ b. b || false) (and_false (same_key c.creator here) (nat_lt c.number (2 ^ 62)) unlike)

-- ---- one row more

has-end : (d c : Category) (rows : List Category) → has by_name d rows ≡ false → same_category d c ≡ false → has by_name d (rows ++ c ∷ []) ≡ false
has-end d c rows no-row unlike = list_any-append (same_category d) rows (c ∷ []) ∙ either (has by_name d rows) (same_category d c) no-row unlike
  where
    either : (a b : Bool) → a ≡ false → b ≡ false → (a || (b || false)) ≡ false
    either a b p q = cc

turned : (c d : Category) → same_category c d ≡ false → same_category d c ≡ false
turned c d e = cases (same_category d c) refl
  where
    cases : (b : Bool) → same_category d c ≡ b → b ≡ false
    cases true f = absurd (differ (sym ((same-is by_name names c d).1 (sym ((same-is by_name names d c).0 f))) ∙ e))
      where
        differ : true ≡ false → ⊥
        differ g = cc
    cases false f = refl

distinct-end : (c : Category) (rows : List Category) → has by_name c rows ≡ false → are_distinct rows ≡ true → are_distinct (rows ++ c ∷ []) ≡ true
distinct-end c [] no-row once = refl
distinct-end c (d ∷ rows) no-row once =
    let parts = or_neither (same_category c d) (has by_name c rows) no-row in
    let alone = and_first (not (has by_name d rows)) (are_distinct rows) once in
    and_both (not (has by_name d (rows ++ c ∷ []))) (are_distinct (rows ++ c ∷ []))
    (not_false (has by_name d (rows ++ c ∷ [])) (has-end d c rows (not_true (has by_name d rows) alone) (turned c d parts.0)))
    (distinct-end c rows parts.1 (and_second (not (has by_name d rows)) (are_distinct rows) once))

foreign-end : (here : PubKey) (c : Category) (rows : List Category) → same_key c.creator here ≡ false → list_all (λ d. not (same_key d.creator here)) rows ≡ true → list_all (λ d. not (same_key d.creator here)) (rows ++ c ∷ []) ≡ true
foreign-end here c [] unlike all = and_both (not (same_key c.creator here)) true (not_false (same_key c.creator here) unlike) refl
foreign-end here c (d ∷ rows) unlike all =
    and_both (not (same_key d.creator here)) (list_all (λ d. not (same_key d.creator here)) (rows ++ c ∷ []))
    (and_first (not (same_key d.creator here)) (list_all (λ d. not (same_key d.creator here)) rows) all)
    (foreign-end here c rows unlike (and_second (not (same_key d.creator here)) (list_all (λ d. not (same_key d.creator here)) rows) all))

-- a table with a row for a new foreign category is a table
pub grown : (here : PubKey) (rows : List Category) (c : Category) → IsTable here rows → is_known here rows c ≡ false → same_key c.creator here ≡ false → length rows ≢ 1024 → IsTable here (rows ++ c ∷ [])
grown here rows c table unknown unlike room = record {
  few = omega (arith, table.few, length-append rows (c ∷ []));
  foreign = foreign-end here c rows unlike table.foreign;
  once = distinct-end c rows (or_neither (is_home here c) (has by_name c rows) unknown).1 table.once;
}

-- the number that a new category gets
pub new_number : (here : PubKey) (rows : List Category) (c : Category) → is_known here rows c ≡ false → number_of here rows c ≡ 2 ^ 63 + 2 * length rows + kind_number c.kind
new_number here rows c unknown =
    let parts = or_neither (is_home here c) (has by_name c rows) unknown in
    rw (parts.0, row_of-none c rows parts.1) refl

-- a category with a number is known
pub numbered_known : (here : PubKey) (rows : List Category) (c : Category) (n : ℕ) (found : Option ℕ) → found ≡ to_number here rows c → found ≡ Some n → is_known here rows c ≡ true
numbered_known here rows c n found at some = cases (is_known here rows c) (sym at ∙ some)
  where
    cases : (b : Bool) → cond b (Some (number_of here rows c)) None ≡ Some n → b ≡ true
    cases true e = refl
    cases false e = absurd cc

-- and one without isn't
pub none_unknown : (here : PubKey) (rows : List Category) (c : Category) (found : Option ℕ) → found ≡ to_number here rows c → found ≡ None → is_known here rows c ≡ false
none_unknown here rows c found at none = cases (is_known here rows c) (sym at ∙ none)
  where
    cases : (b : Bool) → cond b (Some (number_of here rows c)) None ≡ None → b ≡ false
    cases true e = absurd cc
    cases false e = refl

true_false : (b : Bool) → b ≡ true → b ≡ false → ⊥
true_false b p q = cc

-- what has a number isn't stray
pub numbered_home : (here : PubKey) (rows : List Category) (c : Category) (n : ℕ) (found : Option ℕ) → IsTable here rows → found ≡ to_number here rows c → found ≡ Some n → is_stray here c ≡ true → ⊥
numbered_home here rows c n found table at some unmappable_home = true_false (is_known here rows c) (numbered_known here rows c n found at some) (stray_unknown here rows c table unmappable_home)

-- ---- numbers and kinds

-- twice the half, and the parity
pub halves : (n : ℕ) → 2 * (n / 2) + kind_number (kind_of n) ≡ n
halves n = cases (n % 2 == 0) refl
  where
    cases : (b : Bool) → (n % 2 == 0) ≡ b → 2 * (n / 2) + kind_number (cond b Secrecy Integrity) ≡ n
    cases true e = let z : n % 2 ≡ 0 = (Decides-eqb (n % 2) 0).0 e in omega arith
    cases false e = let z : n % 2 ≡ 1 = odd (n % 2) e (omega arith) in omega arith
      where
        odd : (r : ℕ) → (r == 0) ≡ false → r < 2 → r ≡ 1
        odd r f lt = grind (arith, nat_tests)

pub half_of : (m : ℕ) (k : Kind) → (2 * m + kind_number k) / 2 ≡ m
half_of m Secrecy = omega arith
half_of m Integrity = omega arith

pub kind_of-number : (m : ℕ) (k : Kind) → kind_of (2 * m + kind_number k) ≡ k
kind_of-number m Secrecy = let e : (2 * m + 0) % 2 ≡ 0 = omega arith in rw e refl
kind_of-number m Integrity = let e : (2 * m + 1) % 2 ≡ 1 = omega arith in rw e refl

same_kind-itself : (k : Kind) → same_kind k k ≡ true
same_kind-itself Secrecy = refl
same_kind-itself Integrity = refl

pub same_kind-is : (k l : Kind) → same_kind k l ≡ true → k ≡ l
same_kind-is Secrecy Secrecy e = refl
same_kind-is Secrecy Integrity e = absurd cc
same_kind-is Integrity Secrecy e = absurd cc
same_kind-is Integrity Integrity e = refl

key_is : (a b : PubKey) → same_key a b ≡ true → a ≡ b
key_is a b e = ap (λ bytes. record { 0 = bytes }) ((bytes_eq-Decides a.0 b.0).0 e)

key_same : (a : PubKey) → same_key a a ≡ true
key_same a = (bytes_eq-Decides a.0 a.0).1 refl

below : (n m : ℕ) → n < m → nat_lt n m ≡ true
below n m lt = grind (arith, nat_tests)

above : (n m : ℕ) → m ≤ n → nat_lt n m ≡ false
above n m le = grind (arith, nat_tests)

is_above : (n m : ℕ) → nat_lt n m ≡ false → m ≤ n
is_above n m e = grind (arith, nat_tests)

is_below : (n m : ℕ) → nat_lt n m ≡ true → n < m
is_below n m e = grind (arith, nat_tests)

-- ---- names and numbers

-- a category stands at its row
row_of-there : (c : Category) (rows : List Category) → has by_name c rows ≡ true → slice_get rows (row_of c rows) ≡ Some c
row_of-there c [] e = absurd cc
row_of-there c (d ∷ rows) e = cases (same_category c d) refl e (row_of-there c rows)
  where
    cases : (b : Bool) → same_category c d ≡ b → (b || has by_name c rows) ≡ true → (has by_name c rows ≡ true → slice_get rows (row_of c rows) ≡ Some c) → slice_get (d ∷ rows) (cond b 0 (suc (row_of c rows))) ≡ Some c
    cases true s f rest = ap Some (sym ((same-is by_name names c d).0 s))
    cases false s f rest = rest f

-- what stands at a place is in a row
there_has : (c : Category) (rows : List Category) (r : ℕ) → slice_get rows r ≡ Some c → has by_name c rows ≡ true
there_has c [] r e = absurd cc
there_has c (d ∷ rows) zero e = let f : d ≡ c = cc in ap (λ b. b || has by_name c rows) ((same-is by_name names c d).1 (sym f))
there_has c (d ∷ rows) (suc r) e = ap (λ b. same_category c d || b) (there_has c rows r e) ∙ or_true (same_category c d)
  where
    or_true : (a : Bool) → (a || true) ≡ true
    or_true true = refl
    or_true false = refl

-- and that place is its first, where none stands twice
there_first : (c : Category) (rows : List Category) (r : ℕ) → are_distinct rows ≡ true → slice_get rows r ≡ Some c → row_of c rows ≡ r
there_first c [] r once e = absurd cc
there_first c (d ∷ rows) zero once e = let f : d ≡ c = cc in ap (λ b. cond b 0 (suc (row_of c rows))) ((same-is by_name names c d).1 (sym f))
there_first c (d ∷ rows) (suc r) once e = cases (same_category c d) refl (there_first c rows r (and_second (not (has by_name d rows)) (are_distinct rows) once) e)
  where
    alone : has by_name d rows ≡ false
    alone = not_true (has by_name d rows) (and_first (not (has by_name d rows)) (are_distinct rows) once)

    cases : (b : Bool) → same_category c d ≡ b → row_of c rows ≡ r → cond b 0 (suc (row_of c rows)) ≡ suc r
    cases true s rest = absurd (true_false (has by_name c rows) (there_has c rows r e) (ap (λ x. has by_name x rows) ((same-is by_name names c d).0 s) ∙ alone))
    cases false s rest = ap suc rest

kind_small : (k : Kind) → kind_number k < 2
kind_small Secrecy = omega arith
kind_small Integrity = omega arith

-- the parts of a foreign category's number: it isn't below 2^63, its kind, and its row
foreign_parts : (r : ℕ) (k : Kind) → (nat_lt (2 ^ 63 + 2 * r + kind_number k) (2 ^ 63) ≡ false) × (kind_of (2 ^ 63 + 2 * r + kind_number k) ≡ k) × ((2 ^ 63 + 2 * r + kind_number k - 2 ^ 63) / 2 ≡ r)
foreign_parts r k =
    let twice : 2 ^ 63 + 2 * r + kind_number k ≡ 2 * (2 ^ 62 + r) + kind_number k = omega arith in
    let rest : 2 ^ 63 + 2 * r + kind_number k - 2 ^ 63 ≡ 2 * r + kind_number k = omega arith in (
      above (2 ^ 63 + 2 * r + kind_number k) (2 ^ 63) (omega arith),
      ap kind_of twice ∙ kind_of-number (2 ^ 62 + r) k,
      ap (λ n. n / 2) rest ∙ half_of r k,
    )

and_false : (a b : Bool) → a ≡ false → (a && b) ≡ false
and_false true b e = absurd cc
and_false false b e = refl

-- the number of a known category has its name
pub to_name-number_of : (here : PubKey) (rows : List Category) (c : Category) → is_known here rows c ≡ true → to_name here rows (number_of here rows c) ≡ Some c
to_name-number_of here rows c known = cases (is_home here c) refl known
  where
    home : is_home here c ≡ true → to_name here rows (2 * c.number + kind_number c.kind) ≡ Some c
    home e =
        let own = key_is c.creator here (and_first (same_key c.creator here) (nat_lt c.number (2 ^ 62)) e) in
        let few = is_below c.number (2 ^ 62) (and_second (same_key c.creator here) (nat_lt c.number (2 ^ 62)) e) in
        let small = kind_small c.kind in
        rw (below (2 * c.number + kind_number c.kind) (2 ^ 63) (omega arith), kind_of-number c.number c.kind, half_of c.number c.kind)
        (λ i. Some (record { creator = sym own i; kind = c.kind; number = c.number }))

    foreign : has by_name c rows ≡ true → to_name here rows (2 ^ 63 + 2 * row_of c rows + kind_number c.kind) ≡ Some c
    foreign e =
        let parts = foreign_parts (row_of c rows) c.kind in
        rw (parts.0, parts.2, row_of-there c rows e, parts.1, same_kind-itself c.kind) refl

    cases : (b : Bool) → is_home here c ≡ b → (b || has by_name c rows) ≡ true → to_name here rows (cond b (2 * c.number + kind_number c.kind) (2 ^ 63 + 2 * row_of c rows + kind_number c.kind)) ≡ Some c
    cases true e k = home e
    cases false e k = foreign k

-- the name of a number has that number
pub to_number-to_name : (here : PubKey) (rows : List Category) (n : ℕ) (c : Category) → IsTable here rows → to_name here rows n ≡ Some c → to_number here rows c ≡ Some n
to_number-to_name here rows n c table named = cases (nat_lt n (2 ^ 63)) refl named
  where
    home : n < 2 ^ 63 → record { creator = here; kind = kind_of n; number = n / 2 } ≡ c → to_number here rows c ≡ Some n
    home few e = subst (λ d. to_number here rows d ≡ Some n) e
        (rw (key_same here, below (n / 2) (2 ^ 62) (omega arith), halves n) refl)

    row : ℕ
    row = (n - 2 ^ 63) / 2

    foreign : 2 ^ 63 ≤ n → slice_get rows row ≡ Some c → same_kind c.kind (kind_of n) ≡ true → to_number here rows c ≡ Some n
    foreign many at kind =
        let there = there_has c rows row at in
        let abroad = and_false (same_key c.creator here) (nat_lt c.number (2 ^ 62)) (foreign_row here rows c table there) in
        let same = same_kind-is c.kind (kind_of n) kind in
        let half = halves n in
        let whole : 2 ^ 63 + 2 * ((n - 2 ^ 63) / 2) + kind_number (kind_of n) ≡ n = omega arith in
        rw (abroad, there, there_first c rows row table.once at, same, whole) refl

    at_row : 2 ^ 63 ≤ n → (o : Option Category) → slice_get rows row ≡ o → if_kind n o ≡ Some c → to_number here rows c ≡ Some n
    at_row many None at e = absurd cc
    at_row many (Some d) at e = kinds (same_kind d.kind (kind_of n)) refl e
      where
        kinds : (b : Bool) → same_kind d.kind (kind_of n) ≡ b → cond b (Some d) None ≡ Some c → to_number here rows c ≡ Some n
        kinds true same f = let g : d ≡ c = cc in foreign many (at ∙ ap Some g) (ap (λ (x : Category). same_kind x.kind (kind_of n)) (sym g) ∙ same)
        kinds false same f = absurd cc

    cases : (b : Bool) → nat_lt n (2 ^ 63) ≡ b → cond b (Some (record { creator = here; kind = kind_of n; number = n / 2 })) (if_kind n (slice_get rows row)) ≡ Some c → to_number here rows c ≡ Some n
    cases true few e = home (is_below n (2 ^ 63) few) cc
    cases false many e = at_row (is_above n (2 ^ 63) many) (slice_get rows row) refl e
