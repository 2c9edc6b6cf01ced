-- Rows of a table: they are known, and no two are one category or have one number.
use Rattle.std.proofs.Common.{◌≡◌, ◌≢◌, ℕ, zero, suc, ◌<◌, Bool, true, false, ◌||◌, not, List, [], ◌∷◌, ◌++◌, length, get_or, take, map, refl, sym, ◌∙◌, ap, subst, arith}
use Rattle.std.specs.List.{list_all}
use Rattle.std.proofs.lemmas.Bool.{and_parts, or_parts, or_left, or_right, not-true}
use Rattle.ds_label.specs.declared.category.PubKey.{PubKey}
use Rattle.ds_label.specs.declared.category.Category.{Category}
use Rattle.ds_label.specs.Flow.{has}
use Rattle.ds_label.specs.Names.{by_name, same_category}
use Rattle.ds_label.proofs.Namings.{names}
use Rattle.ds_label.proofs.Members.{same-is}
use Rattle.ds_script.specs.declared.usable.Usable.{Usable}
use Rattle.ds_script.specs.Names.{AreApart}
use Rattle.ds_model.specs.Mapping.{is_home, is_known, number_of}
use Rattle.ds_map.specs.Table.{IsTable, are_distinct}
use Rattle.ds_map.specs.Labels.{name_of}
use Rattle.ds_map.proofs.Numbers.{name_of-number_of}
use Rattle.ds_plan.specs.Documents.{are_new, are_different, are_rows, stood}
use Rattle.ds_plan.specs.Keys.{same_key}
use Rattle.ds_boot.specs.Parts.{usable_of}

abbrev same_row : Category → Category → Bool
same_row a b = by_name.same a b

-- ---- a row is known

pub row_has : (rows : List Category) (i : ℕ) (d : Category) → i < length rows → has by_name (get_or rows i d) rows ≡ true
row_has [] i d lt = absurd (omega arith)
row_has (c ∷ rows) zero d lt = or_left (same_category c c) (has by_name c rows) ((same-is by_name names c c).1 refl)
row_has (c ∷ rows) (suc i) d lt = or_right (same_category (get_or rows i d) c) (has by_name (get_or rows i d) rows) (row_has rows i d (omega (arith, lt)))

pub row_known : (here : PubKey) (rows : List Category) (i : ℕ) (d : Category) → i < length rows → is_known here rows (get_or rows i d) ≡ true
row_known here rows i d lt = or_right (is_home here (get_or rows i d)) (has by_name (get_or rows i d) rows) (row_has rows i d lt)

-- ---- rows differ

pub rows_differ : (rows : List Category) (i j : ℕ) (d : Category) → are_distinct rows ≡ true → i < j → j < length rows → get_or rows i d ≢ get_or rows j d
rows_differ [] i j d once lt below same = omega (arith, below)
rows_differ (c ∷ rows) i zero d once lt below same = omega (arith, lt)
rows_differ (c ∷ rows) zero (suc j) d once lt below same =
    let none : has by_name c rows ≡ false = not-true (has by_name c rows) (and_parts (not (has by_name c rows)) (are_distinct rows) once).0 in
    let some : has by_name c rows ≡ true = subst (λ z. has by_name z rows ≡ true) (sym same) (row_has rows j d (omega (arith, below))) in
    let clash : false ≡ true = sym none ∙ some in
    absurd cc
rows_differ (c ∷ rows) (suc i) (suc j) d once lt below same = rows_differ rows i j d (and_parts (not (has by_name c rows)) (are_distinct rows) once).1 (omega (arith, lt)) (omega (arith, below)) same

module _ (here : PubKey) (rows : List Category) (table : IsTable here rows) where
  numbers_differ : (i j : ℕ) (d : Category) → i < j → j < length rows → number_of here rows (get_or rows i d) ≢ number_of here rows (get_or rows j d)
  numbers_differ i j d lt below same = rows_differ rows i j d table.once lt below
      (sym (name_of-number_of here rows (get_or rows i d) (row_known here rows i d (omega (arith, lt, below))))
      ∙ (ap (name_of here rows) same ∙ name_of-number_of here rows (get_or rows j d) (row_known here rows j d below)))

  mapped_at : (f : Category → Usable) (xs : List Category) (i : ℕ) (u : Usable) (c : Category) → i < length xs → get_or (map f xs) i u ≡ f (get_or xs i c)
  mapped_at f [] i u c lt = absurd (omega arith)
  mapped_at f (x ∷ xs) zero u c lt = refl
  mapped_at f (x ∷ xs) (suc i) u c lt = mapped_at f xs i u c (omega (arith, lt))

  length_mapped : (f : Category → Usable) (xs : List Category) → length (map f xs) ≡ length xs
  length_mapped f [] = refl
  length_mapped f (x ∷ xs) = ap suc (length_mapped f xs)

  -- the names of a table's rows are apart
  pub rows_apart : AreApart (map (usable_of here rows) rows)
  rows_apart i j u lt below =
      let there : j < length rows = omega (arith, below, length_mapped (usable_of here rows) rows) in
      let first = mapped_at (usable_of here rows) rows i u u.category (omega (arith, lt, there)) in
      let second = mapped_at (usable_of here rows) rows j u u.category there in (
        λ same. rows_differ rows i j u.category table.once lt there (sym (ap (λ (v : Usable). v.category) first) ∙ (same ∙ ap (λ (v : Usable). v.category) second)),
        λ same. numbers_differ i j u.category lt there (sym (ap (λ (v : Usable). v.local) first) ∙ (same ∙ ap (λ (v : Usable). v.local) second)),
      )

-- ---- a document's rows make a table

-- an item is new behind those that stand before it
new_behind : (before xs : List Category) (i : ℕ) (d : Category) → are_new same_row before xs ≡ true → i < length xs → stood same_row (before ++ take i xs) (get_or xs i d) ≡ false
new_behind before [] i d new lt = absurd (omega arith)
new_behind before (x ∷ xs) zero d new lt =
    subst (λ ys. stood same_row ys x ≡ false) (sym (append_none before)) (not-true (stood same_row before x) (and_parts (not (stood same_row before x)) (are_new same_row (before ++ x ∷ []) xs) new).0)
  where
    append_none : (ys : List Category) → ys ++ [] ≡ ys
    append_none [] = refl
    append_none (y ∷ ys) = ap (λ (zs : List Category). y ∷ zs) (append_none ys)
new_behind before (x ∷ xs) (suc i) d new lt =
    subst (λ ys. stood same_row ys (get_or xs i d) ≡ false) (one_by_one before (take i xs)) (new_behind (before ++ x ∷ []) xs i d (and_parts (not (stood same_row before x)) (are_new same_row (before ++ x ∷ []) xs) new).1 (omega (arith, lt)))
  where
    one_by_one : (ys zs : List Category) → (ys ++ x ∷ []) ++ zs ≡ ys ++ x ∷ zs
    one_by_one [] zs = refl
    one_by_one (y ∷ ys) zs = ap (λ (ws : List Category). y ∷ ws) (one_by_one ys zs)

turned : (c d : Category) → same_category c d ≡ false → same_category d c ≡ false
turned c d e = cases (same_category d c) refl
  where
    cases : (b : Bool) → same_category d c ≡ b → b ≡ false
    cases true f =
        let clash : true ≡ false = sym ((same-is by_name names c d).1 (sym ((same-is by_name names d c).0 f))) ∙ e in
        absurd cc
    cases false f = refl

-- the same, asked the other way round
not_among : (c : Category) (rows : List Category) → stood same_row rows c ≡ false → has by_name c rows ≡ false
not_among c [] none = refl
not_among c (d ∷ rows) none =
    let parts = or_parts (same_category d c) (stood same_row rows c) none in
    neither (same_category c d) (has by_name c rows) (turned d c parts.0) (not_among c rows parts.1)
  where
    neither : (a b : Bool) → a ≡ false → b ≡ false → (a || b) ≡ false
    neither a b p q = cc

pub row_new : (here : PubKey) (rows : List Category) (i : ℕ) (d : Category) → are_rows here rows ≡ true → i < length rows → has by_name (get_or rows i d) (take i rows) ≡ false
row_new here rows i d are lt = not_among (get_or rows i d) (take i rows) (new_behind [] rows i d (and_parts (are_different same_row rows) (list_all (λ c. not (same_key c.creator here)) rows) are).0 lt)

pub row_foreign : (here : PubKey) (rows : List Category) (i : ℕ) (d : Category) → are_rows here rows ≡ true → i < length rows → same_key (get_or rows i d).creator here ≡ false
row_foreign here rows i d are lt = at rows i (and_parts (are_different same_row rows) (list_all (λ c. not (same_key c.creator here)) rows) are).1 lt
  where
    at : (xs : List Category) (k : ℕ) → list_all (λ c. not (same_key c.creator here)) xs ≡ true → k < length xs → same_key (get_or xs k d).creator here ≡ false
    at [] k all below = absurd (omega arith)
    at (x ∷ xs) zero all below = not-true (same_key x.creator here) (and_parts (not (same_key x.creator here)) (list_all (λ c. not (same_key c.creator here)) xs) all).0
    at (x ∷ xs) (suc k) all below = at xs k (and_parts (not (same_key x.creator here)) (list_all (λ c. not (same_key c.creator here)) xs) all).1 (omega (arith, below))
