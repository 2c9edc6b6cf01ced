-- Usable names of which no two share a category or a number, and one more.
use Rattle.std.proofs.Common.{◌≡◌, ℕ, false, List, [], ◌∷◌, ◌++◌, get_or, sym, ◌∙◌}
use Rattle.std.specs.Prelude.{◌≢◌}
use Rattle.std.proofs.lemmas.Bool.{false≢true}
use Rattle.std.proofs.lemmas.List.Folds.{list_any_at}
use Rattle.std.proofs.lemmas.List.Quantifiers.{all_pairs_push}
use Rattle.ds_label.specs.declared.category.Category.{Category}
use Rattle.ds_label.specs.Names.{same_category, by_name}
use Rattle.ds_label.proofs.Namings.{names as names_naming}
use Rattle.ds_label.proofs.Members.{same-is}
use Rattle.ds_script.specs.declared.usable.Usable.{Usable}
use Rattle.ds_script.specs.Names.{is_named, AreApart, IsNewNumber}

-- a category that isn't among them, with a number that no other category among them has
pub apart_push : (category : Category) (local : ℕ) (names : List Usable) → AreApart names → IsNewNumber category local names → is_named category names ≡ false
    → AreApart (names ++ record { category = category; local = local } ∷ [])
apart_push category local names apart new absent =
    all_pairs_push (λ (u v : Usable). (u.category ≢ v.category) × (u.local ≢ v.local)) names (record { category = category; local = local }) apart (λ k d below.
    let differ : (get_or names k d).category ≢ category = λ e. false≢true (sym absent ∙ list_any_at (λ (u : Usable). same_category u.category category) names k d below ((same-is by_name names_naming (get_or names k d).category category).1 e)) in
    (differ, λ e. differ (new k d below e)))
