-- Usable names of a process to which one comes.
use Rattle.std.specs.Prelude.{◌≡◌, ℕ, ◌+◌, ◌==◌, Bool, not, ◌&&◌, ◌||◌, List, Some, if◌then◌else◌}
use Rattle.ds_label.specs.declared.category.PubKey.{PubKey}
use Rattle.ds_label.specs.declared.category.Category.{Category}
use Rattle.ds_label.specs.Names.{same_category}
use Rattle.ds_script.specs.declared.usable.Usable.{Usable}
use Rattle.ds_model.specs.Mapping.{home_number, is_home, to_number}
use Rattle.ds_actor.specs.Usable.{IsAgreed}

-- whether a name is of a category that the host made, with the number that it has on every host's table
abbrev pub has_home_number : PubKey → Usable → Bool
has_home_number here u = is_home here u.category && (home_number u.category == u.local)

-- whether a name leaves a foreign category this number, of a row whose first number is `even`: it is the same category with this
-- number, or one that the host made, or one in another row
abbrev pub leaves_number : PubKey → Category → (number even : ℕ) → Usable → Bool
leaves_number here c number even u =
    if same_category u.category c
    then u.local == number
    else (is_home here u.category || (not (u.local == even) && not (u.local == even + 1)))

-- there is a table that has the numbers of the names, and in which the category has this one
abbrev pub HasNumber : PubKey → List Usable → Category → ℕ → Type 0
HasNumber here names c number = (rows : List Category) × IsAgreed here rows names × (to_number here rows c ≡ Some number)
