-- Each rule over names, from the rule over the numbers.
use Rattle.std.proofs.Common.{◌≡◌, ℕ, ◌+◌, ◌*◌, ◌^◌, ◌<◌, List, [], ◌∷◌, Option, Bool, true, false, ◌&&◌, refl, sym, ap, ◌∙◌, subst, arith}
use Rattle.std.specs.Prelude.{Result, nat_lt, All}
use Rattle.std.specs.List.{list_all}
use Rattle.std.proofs.lemmas.Bool.Decides.{nat_tests}
use Rattle.std.proofs.lemmas.Slice.Eq.{bytes_eq-Decides}
use Rattle.ds_label.specs.declared.category.Category.{Category}
use Rattle.ds_label.specs.declared.category.Kind.{Kind}
use Rattle.ds_label.specs.declared.category.PubKey.{PubKey}
use Rattle.ds_label.specs.declared.rule.Rule.{Rule}
use Rattle.ds_label.specs.Flow.{IsRising}
use Rattle.ds_label.specs.Names.{by_name}
use Rattle.ds_label.specs.Numbers.{by_number}
use Rattle.ds_script.specs.declared.usable.Usable.{Usable}
use Rattle.ds_script.specs.Names.{IsNewNumber}
use Rattle.ds_model.specs.ProcessRules.{may_send, may_take, may_publish, may_relabel, may_make, can_grant}
use Rattle.ds_model.specs.Mapping.{is_home, is_known, number_of, home_number, next_category}
use Rattle.ds_map.specs.Labels.{has_name, name_of, named}
use Rattle.ds_map.specs.Translation.{UnderNames, UnderTables}
use Rattle.ds_map.proofs.Numbers.{same_rules, number_named, name_of-number_of}
use Rattle.ds_monitor.specs.declared.fault.ProcFault.{ProcFault}
use Rattle.ds_monitor.specs.Judgements.{Answers}

pub send_names : (r : Option Rule) (label own clear to grant grant_clear : List ℕ) → r ≡ may_send by_number label own clear to grant grant_clear →
    UnderNames (label ∷ own ∷ clear ∷ to ∷ grant ∷ grant_clear ∷ []) (λ names. r ≡ may_send by_name (names label) (names own) (names clear) (names to) (names grant) (names grant_clear))
send_names r label own clear to grant grant_clear e here rows table h = e ∙ sym ((same_rules here rows table).send label own clear to grant grant_clear h)

pub take_names : (r : Option Rule) (box label own : List ℕ) → r ≡ may_take by_number box label own → UnderNames (box ∷ label ∷ own ∷ []) (λ names. r ≡ may_take by_name (names box) (names label) (names own))
take_names r box label own e here rows table h = e ∙ sym ((same_rules here rows table).take box label own h)

pub publish_names : (r : Option Rule) (label own : List ℕ) → r ≡ may_publish by_number label own → UnderNames (label ∷ own ∷ []) (λ names. r ≡ may_publish by_name (names label) (names own))
publish_names r label own e here rows table h = e ∙ sym ((same_rules here rows table).publish label own h)

pub grant_names : (r : Bool) (own clear grant grant_clear : List ℕ) → r ≡ can_grant by_number own clear grant grant_clear →
    UnderNames (own ∷ clear ∷ grant ∷ grant_clear ∷ []) (λ names. IsRising by_number own → IsRising by_number clear → r ≡ can_grant by_name (names own) (names clear) (names grant) (names grant_clear))
grant_names r own clear grant grant_clear e here rows table h up rise = e ∙ sym ((same_rules here rows table).grant own clear grant grant_clear up rise h)

pub relabel_names : (result : Result (Unit {0}) ProcFault) (label own clear to : List ℕ) → Answers (may_relabel by_number label own clear to) result →
    UnderNames (label ∷ own ∷ clear ∷ to ∷ []) (λ names. Answers (may_relabel by_name (names label) (names own) (names clear) (names to)) result)
relabel_names result label own clear to a here rows table h = subst (λ (r : Option Rule). Answers r result) (sym ((same_rules here rows table).relabel label own clear to h)) a

-- the category that a process makes next is home
next_home : (here : PubKey) (index made : ℕ) (kind : Kind) → index < 2 ^ 30 → made < 2 ^ 32 → is_home here (next_category here index made kind) ≡ true
next_home here index made kind few less = rw ((bytes_eq-Decides here.0 here.0).1 refl) (below (index * 2 ^ 32 + made) (2 ^ 62) (omega arith))
  where
    below : (n m : ℕ) → n < m → nat_lt n m ≡ true
    below n m lt = grind (arith, nat_tests)

-- so it has that number under each table of its host
module _ (here : PubKey) (rows : List Category) (c : Category) (home : is_home here c ≡ true) where
  next_known : is_known here rows c ≡ true
  next_known = rw home refl

  next_number : number_of here rows c ≡ home_number c
  next_number = rw home refl

  next_named : has_name here rows (home_number c) ≡ true
  next_named = ap (has_name here rows) (sym next_number) ∙ number_named here rows c next_known

  next_name : name_of here rows (home_number c) ≡ c
  next_name = ap (name_of here rows) (sym next_number) ∙ name_of-number_of here rows c next_known

pub make_names : (result : Result Category ProcFault) (here : PubKey) (index made : ℕ) (kind : Kind) (own : List ℕ) → index < 2 ^ 30 → made < 2 ^ 32 →
    Answers (may_make by_number own made (home_number (next_category here index made kind))) result →
    UnderTables here (own ∷ []) (λ names. IsRising by_number own → Answers (may_make by_name (names own) made (next_category here index made kind)) result)
make_names result here index made kind own few less a rows table h up =
    let c = next_category here index made kind in
    let home = next_home here index made kind few less in
    let both = and_both (list_all (has_name here rows) own) (has_name here rows (home_number c)) h (next_named here rows c home) in
    let law = (same_rules here rows table).make own made (home_number c) up both in
    subst (λ (r : Option Rule). Answers r result) (sym (ap (may_make by_name (named here rows own) made) (sym (next_name here rows c home)) ∙ law)) a
  where
    and_both : (a b : Bool) → (a && true) ≡ true → b ≡ true → (a && ((b && true) && true)) ≡ true
    and_both true true e f = refl
    and_both true false e f = f
    and_both false b e f = e

-- where each usable name is that of its number under a table, no two categories share a number; so a known one's is new
pub known_number_new : (here : PubKey) (rows : List Category) (c : Category) (names : List Usable) → All (λ u. name_of here rows u.local ≡ u.category) names → is_known here rows c ≡ true →
    IsNewNumber c (number_of here rows c) names
known_number_new here rows c names told known k d below e = sym (told k d below) ∙ ap (name_of here rows) e ∙ name_of-number_of here rows c known
