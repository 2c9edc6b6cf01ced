-- Labels in a host's own numbers, and the same labels by their names.
use Rattle.std.specs.Prelude.{ℕ, Bool, List, [], map, is_some, unwrap_or}
use Rattle.std.specs.List.{list_all}
use Rattle.ds_label.specs.declared.category.Kind.TheVariants.{Secrecy}
use Rattle.ds_label.specs.declared.category.PubKey.{PubKey}
use Rattle.ds_label.specs.declared.category.Category.{Category}
use Rattle.ds_label.specs.Flow.{Naming, union}
use Rattle.ds_label.specs.Names.{by_name}
use Rattle.ds_label.specs.Numbers.{by_number}
use Rattle.ds_model.specs.Keys.{no_key}
use Rattle.ds_model.specs.Mapping.{is_known, number_of, to_name}

-- a category that no host makes
abbrev pub no_category : Category
no_category = record { creator = no_key; kind = Secrecy; number = 0 }

-- whether a number has a name
abbrev pub has_name : PubKey → List Category → ℕ → Bool
has_name here rows number = is_some (to_name here rows number)

-- the name of a number
abbrev pub name_of : PubKey → List Category → ℕ → Category
name_of here rows number = unwrap_or (to_name here rows number) no_category

-- what each of the members becomes, as a label in order
abbrev pub image : {C D : Type 0} → Naming D → (C → D) → List C → List D
image naming f members = union naming [] (map f members)

-- the label of the numbers' names
abbrev pub named : PubKey → List Category → List ℕ → List Category
named here rows numbers = image by_name (name_of here rows) numbers

-- the label of the categories' numbers
abbrev pub numbered : PubKey → List Category → List Category → List ℕ
numbered here rows names = image by_number (number_of here rows) names

-- whether each number of these labels has a name
abbrev pub have_names : PubKey → List Category → List (List ℕ) → Bool
have_names here rows labels = list_all (list_all (has_name here rows)) labels

-- whether each category of these labels is known
abbrev pub are_known : PubKey → List Category → List (List Category) → Bool
are_known here rows labels = list_all (list_all (is_known here rows)) labels
