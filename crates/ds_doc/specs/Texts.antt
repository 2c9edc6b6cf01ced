-- Forms of texts.
use Rattle.std.specs.Prelude.{ℕ, ◌+◌, ◌-◌, ◌*◌, List, [], ◌∷◌, length, take, drop, Bool, true, ◌&&◌, ◌||◌, not, nat_le, ◌==◌, if◌then◌else◌, Option, Some, None}
use Rattle.std.specs.List.{list_all, position}
use Rattle.ds_plan.specs.Documents.{is_name}
use Rattle.ds_label.specs.declared.category.Kind.{Kind}
use Rattle.ds_label.specs.declared.category.Kind.TheVariants.{Secrecy, Integrity}

infixl 10 ◌>>=◌
abbrev pub ◌>>=◌ : {A B : Type 0} → Option A → (A → Option B) → Option B
(Some x) >>= f = f x
None >>= f = None

-- x, where the test holds
abbrev pub only_if : {A : Type 0} → Bool → A → Option A
only_if test x = if test then Some x else None

-- `r0` to `r7`
abbrev pub register_of : List ℕ → Option ℕ
register_of [] = None
register_of (a ∷ []) = None
register_of (a ∷ b ∷ []) = only_if ((a == 114) && (nat_le 48 b && nat_le b 55)) (b - 48)
register_of (a ∷ b ∷ c ∷ others) = None

-- `s` or `i`
abbrev pub kind_of : List ℕ → Option Kind
kind_of [] = None
kind_of (a ∷ []) = if a == 115 then Some Secrecy else if a == 105 then Some Integrity else None
kind_of (a ∷ b ∷ others) = None

abbrev pub is_digit : ℕ → Bool
is_digit b = nat_le 48 b && nat_le b 57

-- the number that digits spell, with those that stand before them
abbrev pub value_from : ℕ → List ℕ → ℕ
value_from before [] = before
value_from before (digit ∷ digits) = value_from (before * 10 + (digit - 48)) digits

abbrev pub value_of : List ℕ → ℕ
value_of digits = value_from 0 digits

abbrev pub starts_with_zero : List ℕ → Bool
starts_with_zero [] = true
starts_with_zero (a ∷ others) = a == 48

-- a decimal number of at most ten digits without leading zero, from 0 to `most`
unfoldable pub decimal_of : ℕ → List ℕ → Option ℕ
decimal_of most s =
    if nat_le 1 (length s) && nat_le (length s) 10 && list_all is_digit s && (nat_le (length s) 1
    || not (starts_with_zero s))
    then only_if (nat_le (value_of s) most) (value_of s) else None

-- the place of the first dot
abbrev pub dot : List ℕ → Option ℕ
dot s = position (λ b. b == 46) s

-- what stands before that place, and what behind it
abbrev pub cut_at : List ℕ → Option ℕ → Option (List ℕ × List ℕ)
cut_at s None = None
cut_at s (Some place) = Some (take place s, drop (place + 1) s)

-- a text in two, at its first dot
unfoldable pub cut : List ℕ → Option (List ℕ × List ℕ)
cut s = cut_at s (dot s)

-- a category as a document names it: who made it, and which of the maker's categories it is
pub record Named : Type 0 where
  pub host : List ℕ
  pub process : ℕ
  pub number : ℕ
  pub kind : Kind

-- `HOST.P.N.K`: P from 0 to 1,000,000, N from 0 to 2,147,483,647
unfoldable pub category_of : List ℕ → Option Named
category_of s = do
  first ← cut s
  host ← only_if (is_name first.0) first.0
  second ← cut first.1
  process ← decimal_of 1000000 second.0
  third ← cut second.1
  number ← decimal_of 2147483647 third.0
  kind ← kind_of third.1
  Some (record { host = host; process = process; number = number; kind = kind })
