-- A host's own numbers of categories. A home category is one that the host itself made, with a number below 2^62; a
-- foreign one is known where a row of the host's table holds it. Even numbers are for secrecy and odd ones for integrity.
use Rattle.std.specs.Prelude.{ℕ, suc, ◌+◌, ◌*◌, ◌-◌, ◌^◌, ◌/◌, ◌%◌, ◌==◌, Bool, ◌&&◌, ◌||◌, List, [], ◌∷◌, ◌++◌, Option, Some, None, slice_get, nat_lt, if◌then◌else◌}
use Rattle.ds_label.specs.declared.category.Kind.{Kind}
use Rattle.ds_label.specs.declared.category.Kind.TheVariants.{Secrecy, Integrity}
use Rattle.ds_label.specs.declared.category.PubKey.{PubKey}
use Rattle.ds_label.specs.declared.category.Category.{Category}
use Rattle.ds_label.specs.Flow.{has}
use Rattle.ds_label.specs.Names.{same_category, same_kind, by_name}
use Rattle.ds_model.specs.Keys.{same_key}

-- most rows of a host's table
abbrev pub row_limit : ℕ
row_limit = 1024

-- made by this host, with a number below 2^62
abbrev pub is_home : PubKey → Category → Bool
is_home here c = same_key c.creator here && nat_lt c.number (2 ^ 62)

-- home, or in a list of foreign categories: the table's rows, or the names that a process may use
abbrev pub is_known : PubKey → List Category → Category → Bool
is_known here rows c = is_home here c || has by_name c rows

-- the table with a row for the category, unless it is known
abbrev pub with_row : PubKey → Category → List Category → List Category
with_row here c rows = if is_known here rows c then rows else rows ++ c ∷ []

-- the parity of a category's number
abbrev pub kind_number : Kind → ℕ
kind_number Secrecy = 0
kind_number Integrity = 1

-- the number of a home category
abbrev pub home_number : Category → ℕ
home_number c = 2 * c.number + kind_number c.kind

-- the category that a process makes next: its number is made of the process's number and of how many it made
abbrev pub next_category : PubKey → (proc made : ℕ) → Kind → Category
next_category here proc made kind = record { creator = here; kind = kind; number = proc * 2 ^ 32 + made }

-- the category's first row, or the next row where it has none
abbrev pub row_of : Category → List Category → ℕ
row_of c [] = 0
row_of c (d ∷ rows) = if same_category c d then 0 else suc (row_of c rows)

-- the number that the category has on the host, or would get
abbrev pub number_of : PubKey → List Category → Category → ℕ
number_of here rows c = if is_home here c then home_number c else 2 ^ 63 + 2 * row_of c rows + kind_number c.kind

-- the number of a known category
abbrev pub to_number : PubKey → List Category → Category → Option ℕ
to_number here rows c = if is_known here rows c then Some (number_of here rows c) else None

-- the kind that a number's parity says
abbrev pub kind_of : ℕ → Kind
kind_of number = if number % 2 == 0 then Secrecy else Integrity

-- the category, where its kind is the number's
abbrev pub if_kind : ℕ → Option Category → Option Category
if_kind number None = None
if_kind number (Some c) = if same_kind c.kind (kind_of number) then Some c else None

-- the category with this number: a home one below 2^63, else the row's, where its kind is the number's
abbrev pub to_name : PubKey → List Category → ℕ → Option Category
to_name here rows number =
    if nat_lt number (2 ^ 63)
    then Some (record { creator = here; kind = kind_of number; number = number / 2 })
    else if_kind number (slice_get rows ((number - 2 ^ 63) / 2))
