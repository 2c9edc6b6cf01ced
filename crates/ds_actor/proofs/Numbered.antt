-- Usable names that have the numbers of a table.
use Rattle.std.proofs.Common.{◌≡◌, ℕ, zero, suc, ◌<◌, List, [], ◌∷◌, Some, sym, ap, ◌∙◌, arith}
use Rattle.std.specs.Prelude.{All, ◌^◌}
use Rattle.ds_label.specs.declared.category.PubKey.{PubKey}
use Rattle.ds_label.specs.declared.category.Category.{Category}
use Rattle.ds_label.specs.declared.category.Kind.{Kind}
use Rattle.ds_script.specs.declared.usable.Usable.{Usable}
use Rattle.ds_script.specs.Names.{IsNewNumber}
use Rattle.ds_model.specs.Mapping.{to_number, home_number, next_category}
use Rattle.ds_map.specs.Labels.{name_of}
use Rattle.ds_map.proofs.Numbers.{name_of-number_of}
use Rattle.ds_actor.specs.Usable.{IsAgreed}
use Rattle.ds_actor.specs.Asking.{HasTable, IsNumbered}
use Rattle.ds_actor.proofs.Usables.{numbered_is, home_known}
use Rattle.ds_actor.proofs.Changes.{next_home}

-- one name at a place, or each
pub agreed_each : (here : PubKey) (rows : List Category) (us : List Usable) → IsAgreed here rows us → All (λ u. to_number here rows u.category ≡ Some u.local) us
agreed_each here rows [] all k d w = absurd (omega (arith, w))
agreed_each here rows (u ∷ us) all zero d w = all.0
agreed_each here rows (u ∷ us) all (suc k) d w = agreed_each here rows us all.1 k d (omega (arith, w))

pub each_agreed : (here : PubKey) (rows : List Category) (us : List Usable) → All (λ u. to_number here rows u.category ≡ Some u.local) us → IsAgreed here rows us
each_agreed here rows [] all = tt
each_agreed here rows (u ∷ us) all = (all zero u (omega arith), each_agreed here rows us (λ k d w. all (suc k) d (omega (arith, w))))

-- a number is of one category
one_category : (here : PubKey) (rows : List Category) (c d : Category) (n : ℕ) → to_number here rows c ≡ Some n → to_number here rows d ≡ Some n → c ≡ d
one_category here rows c d n e f =
    let one = numbered_is here rows c n e in
    let other = numbered_is here rows d n f in
    sym (name_of-number_of here rows c one.0) ∙ (ap (name_of here rows) (one.1 ∙ sym other.1) ∙ name_of-number_of here rows d other.0)

pub new_number : (c : Category) (n : ℕ) (us : List Usable) → IsNumbered c n us → IsNewNumber c n us
new_number c n us (here, rows, agreed, is) = λ k d w e. one_category here rows _ c n (agreed_each here rows us agreed k d w ∙ ap Some e) is

pub new_home : (here : PubKey) (us : List Usable) (index made : ℕ) (kind : Kind) → index < 2 ^ 30 → made < 2 ^ 32 → HasTable here us
    → IsNewNumber (next_category here index made kind) (home_number (next_category here index made kind)) us
new_home here us index made kind few less (rows, agreed) =
    let c = next_category here index made kind in
    new_number c (home_number c) us (here, rows, agreed, home_known here rows c (next_home here index made kind few less))
