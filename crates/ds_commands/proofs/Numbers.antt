-- Texts of decimal digits are what `parse` reads.
use Rattle.std.proofs.Common.{◌≡◌, ℕ, ◌^◌, ◌<◌, ◌≤◌, Bool, true, false, ◌&&◌, List, [], ◌∷◌, None, refl, subst, arith}
use Rattle.std.proofs.lemmas.Bool.Decides.{nat_tests}
use Rattle.std.specs.Prelude.{nat_le, nat_lt}
use Rattle.std.specs.List.{list_all}
use Rattle.std.specs.Str.Parse.{IsNumeral, AllDigits, digits_value, without_leading_plus}
use Rattle.std.proofs.lemmas.Str.{digit_value_digit}
use Rattle.std.specs.Int.{IsInRange}
use Rattle.std.specs.Char.{digit_value}
use Rattle.ds_commands.specs.Words.{is_digit, is_decimal, number_in}

and_left : (a b : Bool) → (a && b) ≡ true → a ≡ true
and_left true b e = refl
and_left false b e = absurd cc

and_right : (a b : Bool) → (a && b) ≡ true → b ≡ true
and_right true b e = e
and_right false b e = absurd cc

in_range : (d : ℕ) → is_digit d ≡ true → IsInRange 48 57 d
in_range d e = grind (arith, nat_tests, and_left (nat_le 48 d) (nat_le d 57) e, and_right (nat_le 48 d) (nat_le d 57) e)

digit_below : (d : ℕ) → is_digit d ≡ true → digit_value d < 10
digit_below d e = omega (arith, in_range d e, digit_value_digit d (in_range d e))

all_digits : (ds : List ℕ) → list_all is_digit ds ≡ true → AllDigits 10 ds
all_digits [] e = tt
all_digits (d ∷ ds) e = (digit_below d (and_left (is_digit d) (list_all is_digit ds) e), all_digits ds (and_right (is_digit d) (list_all is_digit ds) e))

-- decimal digits are a numeral
numeral : (text : List ℕ) → is_decimal text ≡ true → IsNumeral 10 text
numeral [] e = absurd cc
numeral (d ∷ []) e = (omega arith, (digit_below d e, tt))
numeral (d ∷ next ∷ others) e =
    let front : is_digit d ≡ true = and_left (is_digit d) (nat_lt 48 d) (and_left (is_digit d && nat_lt 48 d) (list_all is_digit (next ∷ others)) e) in
    (omega arith, (digit_below d front, all_digits (next ∷ others) (and_right (is_digit d && nat_lt 48 d) (list_all is_digit (next ∷ others)) e)))

-- and no plus stands before them
plain : (d : ℕ) (ds : List ℕ) → is_digit d ≡ true → without_leading_plus (d ∷ ds) ≡ d ∷ ds
plain d ds e = grind (arith, nat_tests, in_range d e)

no_plus : (text : List ℕ) → is_decimal text ≡ true → without_leading_plus text ≡ text
no_plus [] e = absurd cc
no_plus (d ∷ []) e = plain d [] e
no_plus (d ∷ next ∷ others) e = plain d (next ∷ others) (and_left (is_digit d) (nat_lt 48 d) (and_left (is_digit d && nat_lt 48 d) (list_all is_digit (next ∷ others)) e))

-- digits that `parse` refuses write a number that is too great
pub too_great : (most : ℕ) (text : List ℕ) → most < 2 ^ 64 → is_decimal text ≡ true
    → ((IsNumeral 10 (without_leading_plus text) × (digits_value 10 (without_leading_plus text) < 2 ^ 64)) → ⊥) → None ≡ number_in most text
too_great most text small decimal refused =
    let plain : (IsNumeral 10 text × (digits_value 10 text < 2 ^ 64)) → ⊥ = subst (λ (t : List ℕ). (IsNumeral 10 t × (digits_value 10 t < 2 ^ 64)) → ⊥) (no_plus text decimal) refused in
    let over : digits_value 10 text < 2 ^ 64 → ⊥ = λ h. plain (numeral text decimal, h) in
    let least : 2 ^ 64 ≤ digits_value 10 text = omega (arith, over) in
    let above : nat_le (digits_value 10 text) most ≡ false = grind (arith, nat_tests, least, small) in
    rw decimal (rw above refl)
