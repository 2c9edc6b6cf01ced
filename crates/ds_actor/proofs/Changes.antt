-- A change of a label and a made category: what is judged and done in numbers is what the model judges and does by names.
use Rattle.std.proofs.Common.{◌≡◌, ℕ, suc, ◌+◌, ◌*◌, ◌^◌, ◌<◌, cond, Bool, true, false, ◌&&◌, ◌||◌, List, [], ◌∷◌, ◌++◌, Option, Some, None, refl, sym, ap, ap₂, ◌∙◌, subst, arith}
use Rattle.std.specs.Prelude.{nat_lt}
use Rattle.std.specs.List.{list_all}
use Rattle.std.proofs.lemmas.Bool.Decides.{nat_tests}
use Rattle.std.proofs.lemmas.Slice.Eq.{bytes_eq-Decides}
use Rattle.ds_label.specs.declared.category.Category.{Category}
use Rattle.ds_label.specs.declared.category.Kind.{Kind}
use Rattle.ds_label.specs.declared.category.PubKey.{PubKey}
use Rattle.ds_label.specs.declared.rule.Rule.{Rule}
use Rattle.ds_label.specs.Flow.{IsRising, has, with_member}
use Rattle.ds_label.specs.Names.{by_name, same_category}
use Rattle.ds_label.specs.Numbers.{by_number}
use Rattle.ds_label.proofs.Namings.{names as naming, numbers as numbering}
use Rattle.ds_label.proofs.Members.{same-is, has-with_member}
use Rattle.ds_script.specs.declared.usable.Usable.{Usable}
use Rattle.ds_script.specs.declared.note.Note.TheVariants as notes
use Rattle.ds_script.specs.Names.{is_named, with_name}
use Rattle.ds_script.specs.Process.{Process as Numbered, finished_process, made_process}
use Rattle.ds_msg.specs.declared.message.Message.{Message}
use Rattle.ds_model.specs.World.{Process}
use Rattle.ds_model.specs.FirstRule.{first_rule, or_else}
use Rattle.ds_model.specs.Mapping.{is_home, is_known, number_of, to_number, home_number, next_category}
use Rattle.ds_model.specs.ExporterRules.{known_rule}
use Rattle.ds_model.specs.ProcessRules.{may_relabel}
use Rattle.ds_model.specs.ProcessStep.{Internal, noted, refused, relabel, make, with_name as with_category}
use Rattle.ds_map.specs.Table.{IsTable}
use Rattle.ds_map.specs.Labels.{named, have_names, has_name, name_of}
use Rattle.ds_map.proofs.Numbers.{same_rules, labels_one_to_one, number_named, name_of-number_of}
use Rattle.ds_map.proofs.Sets.{list_all-alike, same_bool}
use Rattle.ds_actor.specs.Usable.{categories, numbers_by, IsAgreed}
use Rattle.ds_actor.specs.Seen.{process_of}
use Rattle.ds_actor.proofs.Usables.{names_again, numbers_named, home_known}
use Rattle.ds_actor.proofs.Rules.{or_else_none}
use Rattle.ds_actor.proofs.Sends.{all_known}
use Rattle.ds_actor.proofs.Sites.{first_named, second_named, third_named}

-- ---- a new label

module _ (here : PubKey) (rows : List Category) (table : IsTable here rows) (hand : Option Message) (p : Numbered) (agreed : IsAgreed here rows p.names)
    (all_named : have_names here rows (p.label ∷ p.own ∷ p.clear ∷ []) ≡ true) (label : List Category) (up : IsRising by_name label) where
  abbrev x : Process
  x = process_of here rows hand p

  abbrev rule : Option Rule
  rule = first_rule (known_rule here x.names label [] [] ∷ may_relabel by_name x.label x.own x.clear label ∷ [])

  pub label_unknown : (r : Rule) → known_rule here (categories p.names) label [] [] ≡ Some r → relabel x label rule ≡ refused r x
  label_unknown r e = ap (λ (o : Option Rule). relabel x label (or_else o (or_else (may_relabel by_name x.label x.own x.clear label) None))) e

  module _ (numbers : List ℕ) (same : numbers ≡ numbers_by here p.names label) (known : known_rule here (categories p.names) label [] [] ≡ None) where
    by_names : named here rows numbers ≡ label
    by_names = ap (named here rows) same ∙ names_again here rows table p.names agreed label up (all_known here (categories p.names) label [] [] known).0

    pub new_label_named : list_all (has_name here rows) numbers ≡ true
    new_label_named = ap (list_all (has_name here rows)) same ∙ numbers_named here rows p.names agreed label (all_known here (categories p.names) label [] [] known).0

    has_all : have_names here rows (p.label ∷ p.own ∷ p.clear ∷ numbers ∷ []) ≡ true
    has_all = λ i. first_named here rows p.label p.own p.clear [] all_named i && (second_named here rows p.label p.own p.clear [] all_named i && (third_named here rows p.label p.own p.clear [] all_named i && (new_label_named i && true)))

    pub labels_named : have_names here rows (numbers ∷ p.own ∷ p.clear ∷ []) ≡ true
    labels_named = λ i. new_label_named i && (second_named here rows p.label p.own p.clear [] all_named i && (third_named here rows p.label p.own p.clear [] all_named i && true))

    rule_by : (o : Option Rule) → may_relabel by_number p.label p.own p.clear numbers ≡ o → rule ≡ o
    rule_by o e =
        ap (λ (u : Option Rule). or_else u (or_else (may_relabel by_name x.label x.own x.clear label) None)) known
        ∙ (or_else_none (may_relabel by_name x.label x.own x.clear label)
        ∙ (ap (may_relabel by_name x.label x.own x.clear) (sym by_names)
        ∙ ((same_rules here rows table).relabel p.label p.own p.clear numbers has_all ∙ e)))

    pub label_refused : (r : Rule) → may_relabel by_number p.label p.own p.clear numbers ≡ Some r → relabel x label rule ≡ refused r x
    label_refused r e = ap (relabel x label) (rule_by (Some r) e)

    pub label_set : may_relabel by_number p.label p.own p.clear numbers ≡ None
        → relabel x label rule ≡ Internal (process_of here rows hand (finished_process (Some (notes.SetLabel label)) None (record p { label = numbers })))
    label_set e = ap (relabel x label) (rule_by None e) ∙ (λ i. Internal (noted (notes.SetLabel label) (record x { label = sym by_names i })))

-- ---- a name more

turned : (c d : Category) → same_category c d ≡ same_category d c
turned c d = same_bool (same_category c d) (same_category d c)
    (λ e. (same-is by_name naming d c).1 (sym ((same-is by_name naming c d).0 e)))
    (λ e. (same-is by_name naming c d).1 (sym ((same-is by_name naming d c).0 e)))

named_alike : (c : Category) (us : List Usable) → is_named c us ≡ has by_name c (categories us)
named_alike c [] = refl
named_alike c (u ∷ us) = ap₂ (λ (a b : Bool). a || b) (turned u.category c) (named_alike c us)

categories_more : (us : List Usable) (u : Usable) → categories (us ++ u ∷ []) ≡ categories us ++ u.category ∷ []
categories_more [] u = refl
categories_more (v ∷ us) u = ap (λ (cs : List Category). v.category ∷ cs) (categories_more us u)

pub names_more : (c : Category) (n : ℕ) (us : List Usable) → categories (with_name c n us) ≡ with_category c (categories us)
names_more c n us = go (is_named c us) refl
  where
    u : Usable
    u = record { category = c; local = n }

    go : (b : Bool) → is_named c us ≡ b → categories (cond b us (us ++ u ∷ [])) ≡ with_category c (categories us)
    go true e = subst (λ (b : Bool). categories us ≡ cond b (categories us) (categories us ++ c ∷ [])) (sym e ∙ named_alike c us) refl
    go false e = categories_more us u ∙ subst (λ (b : Bool). categories us ++ c ∷ [] ≡ cond b (categories us) (categories us ++ c ∷ [])) (sym e ∙ named_alike c us) refl

agreed_more : (here : PubKey) (rows : List Category) (us : List Usable) (u : Usable) → IsAgreed here rows us → to_number here rows u.category ≡ Some u.local → IsAgreed here rows (us ++ u ∷ [])
agreed_more here rows [] u all e = (e, tt)
agreed_more here rows (v ∷ us) u all e = (all.0, agreed_more here rows us u all.1 e)

pub agreed_with : (here : PubKey) (rows : List Category) (c : Category) (n : ℕ) (us : List Usable) → IsAgreed here rows us → to_number here rows c ≡ Some n → IsAgreed here rows (with_name c n us)
agreed_with here rows c n us all e = go (is_named c us)
  where
    u : Usable
    u = record { category = c; local = n }

    go : (b : Bool) → IsAgreed here rows (cond b us (us ++ u ∷ []))
    go true = all
    go false = agreed_more here rows us u all e

-- ---- a category more

pub next_home : (here : PubKey) (index made : ℕ) (kind : Kind) → index < 2 ^ 30 → made < 2 ^ 32 → is_home here (next_category here index made kind) ≡ true
next_home here index made kind few less = rw ((bytes_eq-Decides here.0 here.0).1 refl) (below (index * 2 ^ 32 + made) (2 ^ 62) (omega arith))
  where
    below : (n m : ℕ) → n < m → nat_lt n m ≡ true
    below n m lt = grind (arith, nat_tests)

one_more : (n : ℕ) → suc n ≡ n + 1
one_more n = omega arith

module _ (here : PubKey) (rows : List Category) (table : IsTable here rows) (hand : Option Message) (p : Numbered) (index : ℕ) (kind : Kind) (few : index < 2 ^ 30) (less : p.made < 2 ^ 32) where
  abbrev c : Category
  c = next_category here index p.made kind

  abbrev y : Process
  y = process_of here rows hand p

  home : is_home here c ≡ true
  home = next_home here index p.made kind few less

  known : is_known here rows c ≡ true
  known = rw home refl

  number : number_of here rows c ≡ home_number c
  number = rw home refl

  name : name_of here rows (home_number c) ≡ c
  name = ap (name_of here rows) (sym number) ∙ name_of-number_of here rows c known

  has_one : has_name here rows (home_number c) ≡ true
  has_one = ap (has_name here rows) (sym number) ∙ number_named here rows c known

  pub own_named : list_all (has_name here rows) p.own ≡ true → list_all (has_name here rows) (with_member by_number (home_number c) p.own) ≡ true
  own_named e =
      list_all-alike by_number numbering (has_name here rows) (with_member by_number (home_number c) p.own) (home_number c ∷ p.own) (λ d. has-with_member by_number numbering d (home_number c) p.own)
      ∙ (λ i. has_one i && e i)

  pub made_agreed : IsAgreed here rows p.names → IsAgreed here rows (with_name c (home_number c) p.names)
  made_agreed all = agreed_with here rows c (home_number c) p.names all (home_known here rows c home)

  own_by : with_member by_name c (named here rows p.own) ≡ named here rows (with_member by_number (home_number c) p.own)
  own_by = ap (λ (d : Category). with_member by_name d (named here rows p.own)) (sym name) ∙ sym ((labels_one_to_one here rows table).more (home_number c) p.own)

  pub made : (o : Option Rule) → o ≡ None → make y c o ≡ Internal (process_of here rows hand (finished_process (Some (notes.NewCat c)) None (made_process c (home_number c) p)))
  made o e = ap (make y c) e ∙ (λ i. Internal (noted (notes.NewCat c) (record y { own = own_by i; names = sym (names_more c (home_number c) p.names) i; made = one_more p.made i })))
