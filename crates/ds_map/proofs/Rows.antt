-- Where a category stands in a list of rows.
use Rattle.std.proofs.Common.{◌≡◌, ℕ, suc, ◌+◌, ◌*◌, ◌^◌, length, Bool, true, false, ◌||◌, cond, List, [], ◌∷◌, Option, Some, None, refl, sym, ap, ◌∙◌, arith}
use Rattle.std.specs.Prelude.{position, nat_lt}
use Rattle.std.specs.List.{position_or_len}
use Rattle.std.proofs.lemmas.List.Recursion.{is_position_or_len}
use Rattle.std.proofs.lemmas.Bool.Decides.{nat_tests}
use Rattle.ds_label.specs.declared.category.Category.{Category}
use Rattle.ds_label.specs.Flow.{has}
use Rattle.ds_label.specs.Names.{same_category, by_name}
use Rattle.ds_label.specs.declared.category.PubKey.{PubKey}
use Rattle.ds_model.specs.Mapping.{row_of, is_home, kind_number, to_number}

-- a category's row is the first place at which it stands
row_of_is : (c : Category) (rows : List Category) → row_of c rows ≡ position_or_len (same_category c) rows
row_of_is c = is_position_or_len (row_of c) (same_category c) refl (λ d rows. ap (λ n. cond (same_category c d) 0 n) (next (row_of c rows)))
  where
    next : (n : ℕ) → suc n ≡ 1 + n
    next n = omega arith

-- and below the end where it is there
pub row_of-within : (c : Category) (rows : List Category) → nat_lt (row_of c rows) (length rows) ≡ has by_name c rows
row_of-within c [] = refl
row_of-within c (d ∷ rows) = cases (same_category c d) (row_of-within c rows)
  where
    later : (n m : ℕ) → nat_lt (suc n) (suc m) ≡ nat_lt n m
    later n m = grind (arith, nat_tests)

    first : (m : ℕ) → nat_lt 0 (suc m) ≡ true
    first m = grind (arith, nat_tests)

    cases : (b : Bool) → nat_lt (row_of c rows) (length rows) ≡ has by_name c rows → nat_lt (cond b 0 (suc (row_of c rows))) (suc (length rows)) ≡ (b || has by_name c rows)
    cases true rest = first (length rows)
    cases false rest = later (row_of c rows) (length rows) ∙ rest

-- the first place, or none
pub position_is : (c : Category) (rows : List Category) → position (same_category c) rows ≡ cond (has by_name c rows) (Some (row_of c rows)) None
position_is c rows = rw (← row_of_is c rows) (ap (λ b. cond b (Some (row_of c rows)) None) (row_of-within c rows))

-- the number of the row at that place
abbrev pub numbered : Category → Option ℕ → Option ℕ
numbered c None = None
numbered c (Some row) = Some (2 ^ 63 + 2 * row + kind_number c.kind)

-- a category that isn't home has its first row's number, if it has a row
pub foreign_is : (here : PubKey) (c : Category) (rows : List Category) (home : Bool) (found : Option ℕ) →
    home ≡ is_home here c → home ≡ false → found ≡ position (same_category c) rows → to_number here rows c ≡ numbered c found
foreign_is here c rows home found tells isn't at =
    rw (sym tells ∙ isn't) (rw (at ∙ position_is c rows) (cases (has by_name c rows)))
  where
    cases : (b : Bool) → cond b (Some (2 ^ 63 + 2 * row_of c rows + kind_number c.kind)) None ≡ numbered c (cond b (Some (row_of c rows)) None)
    cases true = refl
    cases false = refl

-- a category that isn't there would get the next row
pub row_of-none : (c : Category) (rows : List Category) → has by_name c rows ≡ false → row_of c rows ≡ length rows
row_of-none c [] e = refl
row_of-none c (d ∷ rows) e = cases (same_category c d) e (row_of-none c rows)
  where
    cases : (b : Bool) → (b || has by_name c rows) ≡ false → (has by_name c rows ≡ false → row_of c rows ≡ length rows) → cond b 0 (suc (row_of c rows)) ≡ suc (length rows)
    cases true f rest = absurd cc
    cases false f rest = ap suc (rest f)
