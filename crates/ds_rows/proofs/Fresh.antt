-- A number is new among no names.
use Rattle.std.proofs.Common.{◌≡◌, ℕ, List, [], sym, subst}
use Rattle.std.proofs.lemmas.List.Elements.{All-nil}
use Rattle.ds_label.specs.declared.category.Category.{Category}
use Rattle.ds_script.specs.declared.usable.Usable.{Usable}
use Rattle.ds_script.specs.Names.{IsNewNumber}

pub new_among_none : (c : Category) (local : ℕ) (names : List Usable) → names ≡ [] → IsNewNumber c local names
new_among_none c local names none = subst (λ (ns : List Usable). IsNewNumber c local ns) (sym none) (All-nil (λ u. u.local ≡ local → u.category ≡ c))
