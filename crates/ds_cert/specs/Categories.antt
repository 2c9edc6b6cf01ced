-- Reading a category off the front of a list of bytes; none where they don't begin with one.
use Rattle.std.specs.Prelude.{ℕ, List, Option, Some, None, ◌==◌, if◌then◌else◌}
use Rattle.std.specs.Int.{w8, w64}
use Rattle.ds_wire.specs.Fields.{number_at, bytes_at}
use Rattle.ds_label.specs.declared.category.Kind.{Kind}
use Rattle.ds_label.specs.declared.category.Kind.TheVariants.{Secrecy, Integrity}
use Rattle.ds_label.specs.declared.category.Category.{Category}

infixl 10 ◌>>=◌
abbrev pub ◌>>=◌ : {A B : Type 0} → Option A → (A → Option B) → Option B
(Some x) >>= f = f x
None >>= f = None

abbrev pub kind_from : ℕ → Option Kind
kind_from n = if n == 0 then Some Secrecy else if n == 1 then Some Integrity else None

unfoldable pub category_in : List ℕ → Option (Category × List ℕ)
category_in bytes = do
  creator ← bytes_at 56 bytes
  number ← number_at w8 creator.1
  kind ← kind_from number.0
  last ← number_at w64 number.1
  Some (record { creator = record { 0 = creator.0 }; kind = kind; number = last.0 }, last.1)
