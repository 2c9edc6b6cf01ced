-- The names that a process may use besides its host's own.
use Rattle.std.specs.Prelude.{◌≡◌, ◌≢◌, ℕ, Bool, List, [], ◌∷◌, ◌++◌, Option, Some, All, if◌then◌else◌}
use Rattle.std.specs.List.{list_any, AllPairs}
use Rattle.ds_label.specs.declared.category.Category.{Category}
use Rattle.ds_label.specs.Names.{same_category}
use Rattle.ds_script.specs.declared.note.Note.{Note}
use Rattle.ds_script.specs.declared.note.Note.TheVariants as notes
use Rattle.ds_script.specs.declared.usable.Usable.{Usable}

-- whether a category is among the names
abbrev pub is_named : Category → List Usable → Bool
is_named category names = list_any (λ u. same_category u.category category) names

-- the names, and this one unless its category is among them
abbrev pub with_name : Category → ℕ → List Usable → List Usable
with_name category local names = if is_named category names then names else names ++ record { category = category; local = local } ∷ []

-- no two names share a category or a number
abbrev pub AreApart : List Usable → Type 0
AreApart names = AllPairs (λ u v. (u.category ≢ v.category) × (u.local ≢ v.local)) names

-- each name with that number is of that category
abbrev pub IsNewNumber : Category → ℕ → List Usable → Type 0
IsNewNumber category local names = All (λ u. u.local ≡ local → u.category ≡ category) names

-- where a note says that a category was mapped, no other category among the names has its number
abbrev pub MayJoin : Option Note → List Usable → Type 0
MayJoin (Some (notes.Mapped category local)) names = IsNewNumber category local names
MayJoin _ names = Unit {0}
