-- Under a table numbers stand for names, one for one, and their parity for the kind.
use Rattle.std.proofs.Common.{◌≡◌, ℕ, ◌%◌, Bool, true, false, cond, List, [], ◌∷◌, Option, Some, None, refl, sym, ap, ◌∙◌}
use Rattle.std.specs.Prelude.{◌==◌, nat_lt, ◌^◌, ◌-◌, ◌/◌, slice_get, is_some, unwrap_or}
use Rattle.std.specs.List.{list_all}
use Rattle.std.proofs.lemmas.Bool.Decides.{Decides-eqb}
use Rattle.ds_label.specs.declared.category.PubKey.{PubKey}
use Rattle.ds_label.specs.declared.category.Category.{Category}
use Rattle.ds_label.specs.declared.category.Kind.TheVariants.{Secrecy, Integrity}
use Rattle.ds_label.specs.Names.{same_category, same_kind, is_secrecy, by_name}
use Rattle.ds_label.specs.Numbers.{by_number}
use Rattle.ds_label.proofs.Namings.{names, numbers}
use Rattle.ds_label.proofs.Members.{same-is}
use Rattle.ds_model.specs.Mapping.{is_known, number_of, to_number, to_name, kind_of, if_kind}
use Rattle.ds_map.specs.Table.{IsTable}
use Rattle.ds_map.specs.Labels.{has_name, name_of, no_category, named, have_names}
use Rattle.ds_map.specs.Translation.{UnderEachTable, IsOneToOne, LabelsAreOneToOne, SameAnswers, SameRules}
use Rattle.ds_map.proofs.Sets.{same_bool, and_first, and_second}
use Rattle.ds_map.proofs.Bridge.{image-back, IsRising-image, length-image, image-with_member, image-union, image-minus, has-image_of, same_label-image, within-image, within_either-image, flows-image, may_send-image, may_take-image, may_relabel-image, may_publish-image, may_make-image, can_grant-image, mailbox_rule-image}
use Rattle.ds_map.proofs.Tables.{to_name-number_of, to_number-to_name, numbered_known, same_kind-is}

-- a number that has a name has the one that `name_of` says
pub name_is : (here : PubKey) (rows : List Category) (n : ℕ) → has_name here rows n ≡ true → to_name here rows n ≡ Some (name_of here rows n)
name_is here rows n e = cases (to_name here rows n) e
  where
    cases : (o : Option Category) → is_some o ≡ true → o ≡ Some (unwrap_or o no_category)
    cases None f = absurd cc
    cases (Some c) f = refl

-- a name's kind is that of the number's parity
named_kind : (here : PubKey) (rows : List Category) (n : ℕ) (c : Category) → to_name here rows n ≡ Some c → c.kind ≡ kind_of n
named_kind here rows n c named = cases (nat_lt n (2 ^ 63)) named
  where
    kinds : (d : Category) (b : Bool) → same_kind d.kind (kind_of n) ≡ b → cond b (Some d) None ≡ Some c → c.kind ≡ kind_of n
    kinds d true same e = let f : d ≡ c = cc in ap (λ (x : Category). x.kind) (sym f) ∙ same_kind-is d.kind (kind_of n) same
    kinds d false same e = absurd cc

    in_row : (o : Option Category) → if_kind n o ≡ Some c → c.kind ≡ kind_of n
    in_row None e = absurd cc
    in_row (Some d) e = kinds d (same_kind d.kind (kind_of n)) refl e

    cases : (b : Bool) → cond b (Some (record { creator = here; kind = kind_of n; number = n / 2 })) (if_kind n (slice_get rows ((n - 2 ^ 63) / 2))) ≡ Some c → c.kind ≡ kind_of n
    cases true e = let f : record { creator = here; kind = kind_of n; number = n / 2 } ≡ c = cc in ap (λ (x : Category). x.kind) (sym f)
    cases false e = in_row (slice_get rows ((n - 2 ^ 63) / 2)) e

-- so a name is for secrecy where its number is even
pub name_kinds : (here : PubKey) (rows : List Category) (n : ℕ) → has_name here rows n ≡ true → by_name.secret (name_of here rows n) ≡ by_number.secret n
name_kinds here rows n e = ap is_secrecy (named_kind here rows n (name_of here rows n) (name_is here rows n e)) ∙ parity (n % 2 == 0)
  where
    parity : (b : Bool) → is_secrecy (cond b Secrecy Integrity) ≡ b
    parity true = refl
    parity false = refl

-- the number of a number's name
pub number_of-name_of : (here : PubKey) (rows : List Category) → IsTable here rows → (n : ℕ) → has_name here rows n ≡ true → number_of here rows (name_of here rows n) ≡ n
number_of-name_of here rows table n e =
    cases (is_known here rows (name_of here rows n)) (to_number-to_name here rows n (name_of here rows n) table (name_is here rows n e))
  where
    cases : (b : Bool) → cond b (Some (number_of here rows (name_of here rows n))) None ≡ Some n → number_of here rows (name_of here rows n) ≡ n
    cases true f = cc
    cases false f = absurd cc

-- which is known
pub name_known : (here : PubKey) (rows : List Category) → IsTable here rows → (n : ℕ) → has_name here rows n ≡ true → is_known here rows (name_of here rows n) ≡ true
name_known here rows table n e = numbered_known here rows (name_of here rows n) n (to_number here rows (name_of here rows n)) refl (to_number-to_name here rows n (name_of here rows n) table (name_is here rows n e))

-- the name of a known category's number
pub name_of-number_of : (here : PubKey) (rows : List Category) (c : Category) → is_known here rows c ≡ true → name_of here rows (number_of here rows c) ≡ c
name_of-number_of here rows c k = ap (λ (o : Option Category). unwrap_or o no_category) (to_name-number_of here rows c k)

-- which it has
pub number_named : (here : PubKey) (rows : List Category) (c : Category) → is_known here rows c ≡ true → has_name here rows (number_of here rows c) ≡ true
number_named here rows c k = ap (λ (o : Option Category). is_some o) (to_name-number_of here rows c k)

-- names are the same where their numbers are
pub names_alike : (here : PubKey) (rows : List Category) → IsTable here rows → (n m : ℕ) → has_name here rows n ≡ true → has_name here rows m ≡ true → by_name.same (name_of here rows n) (name_of here rows m) ≡ by_number.same n m
names_alike here rows table n m p q = same_bool (same_category (name_of here rows n) (name_of here rows m)) (n == m)
    (λ e. (Decides-eqb n m).1 (sym (number_of-name_of here rows table n p) ∙ ap (number_of here rows) ((same-is by_name names (name_of here rows n) (name_of here rows m)).0 e) ∙ number_of-name_of here rows table m q))
    (λ e. (same-is by_name names (name_of here rows n) (name_of here rows m)).1 (ap (name_of here rows) ((Decides-eqb n m).0 e)))

-- ---- what the definitions say of each table

pub one_to_one : UnderEachTable IsOneToOne
one_to_one here rows table = record {
  number = λ c k. to_name-number_of here rows c k;
  name = λ n c e. to_number-to_name here rows n c table e;
  secrecy = λ n e. name_kinds here rows n e;
}

-- each of these labels, of those and the others
module _ (here : PubKey) (rows : List Category) where
  head : (label : List ℕ) (labels : List (List ℕ)) → have_names here rows (label ∷ labels) ≡ true → list_all (has_name here rows) label ≡ true
  head label labels e = and_first (list_all (has_name here rows) label) (have_names here rows labels) e

  tail : (label : List ℕ) (labels : List (List ℕ)) → have_names here rows (label ∷ labels) ≡ true → have_names here rows labels ≡ true
  tail label labels e = and_second (list_all (has_name here rows) label) (have_names here rows labels) e

  single : (n : ℕ) → list_all (has_name here rows) (n ∷ []) ≡ true → has_name here rows n ≡ true
  single n e = and_first (has_name here rows n) true e

  module _ (table : IsTable here rows) where
    labels_of : LabelsAreOneToOne here rows
    labels_of = record {
      numbers = λ label up e. image-back by_number numbers by_name names (name_of here rows) (number_of here rows) (has_name here rows) (number_of-name_of here rows table) label up (head label [] e);
      names = λ label up e. image-back by_name names by_number numbers (number_of here rows) (name_of here rows) (is_known here rows) (name_of-number_of here rows) label up (and_first (list_all (is_known here rows) label) true e);
      in_order = λ label. IsRising-image by_number numbers by_name names (name_of here rows) label;
      size = λ label up e. length-image by_number numbers by_name names (name_of here rows) (has_name here rows) (names_alike here rows table) (name_kinds here rows) label up (head label [] e);
      more = λ n label. image-with_member by_number numbers by_name names (name_of here rows) n label;
      both = λ first second. image-union by_number numbers by_name names (name_of here rows) first second;
      less = λ first second e. image-minus by_number numbers by_name names (name_of here rows) (has_name here rows) (names_alike here rows table) (name_kinds here rows) first second
          (head first (second ∷ []) e) (head second [] (tail first (second ∷ []) e));
    }

    answers_of : SameAnswers here rows
    answers_of = record {
      member = λ n label e. has-image_of by_number numbers by_name names (name_of here rows) (has_name here rows) (names_alike here rows table) (name_kinds here rows) n label (single n (head (n ∷ []) (label ∷ []) e)) (head label [] (tail (n ∷ []) (label ∷ []) e));
      same = λ a b e. same_label-image by_number numbers by_name names (name_of here rows) (has_name here rows) (names_alike here rows table) (name_kinds here rows) a b (head a (b ∷ []) e) (head b [] (tail a (b ∷ []) e));
      inside = λ a b e. within-image by_number numbers by_name names (name_of here rows) (has_name here rows) (names_alike here rows table) (name_kinds here rows) a b (head a (b ∷ []) e) (head b [] (tail a (b ∷ []) e));
      inside_either = λ a b c e.
          let p = tail a (b ∷ c ∷ []) e in
          within_either-image by_number numbers by_name names (name_of here rows) (has_name here rows) (names_alike here rows table) (name_kinds here rows) a b c (head a (b ∷ c ∷ []) e) (head b (c ∷ []) p) (head c [] (tail b (c ∷ []) p));
      flow = λ a b c e.
          let p = tail a (b ∷ c ∷ []) e in
          flows-image by_number numbers by_name names (name_of here rows) (has_name here rows) (names_alike here rows table) (name_kinds here rows) a b c (head a (b ∷ c ∷ []) e) (head b (c ∷ []) p) (head c [] (tail b (c ∷ []) p));
    }

    rules_of : SameRules here rows
    rules_of = record {
      send = λ a b c d f g e.
          let p = tail a (b ∷ c ∷ d ∷ f ∷ g ∷ []) e in
          let q = tail b (c ∷ d ∷ f ∷ g ∷ []) p in
          let r = tail c (d ∷ f ∷ g ∷ []) q in
          let s = tail d (f ∷ g ∷ []) r in
          may_send-image by_number numbers by_name names (name_of here rows) (has_name here rows) (names_alike here rows table) (name_kinds here rows) a b c d f g
          (head a (b ∷ c ∷ d ∷ f ∷ g ∷ []) e) (head b (c ∷ d ∷ f ∷ g ∷ []) p) (head c (d ∷ f ∷ g ∷ []) q) (head d (f ∷ g ∷ []) r) (head f (g ∷ []) s) (head g [] (tail f (g ∷ []) s));
      take = λ a b c e.
          let p = tail a (b ∷ c ∷ []) e in
          may_take-image by_number numbers by_name names (name_of here rows) (has_name here rows) (names_alike here rows table) (name_kinds here rows) a b c (head a (b ∷ c ∷ []) e) (head b (c ∷ []) p) (head c [] (tail b (c ∷ []) p));
      relabel = λ a b c d e.
          let p = tail a (b ∷ c ∷ d ∷ []) e in
          let q = tail b (c ∷ d ∷ []) p in
          may_relabel-image by_number numbers by_name names (name_of here rows) (has_name here rows) (names_alike here rows table) (name_kinds here rows) a b c d
          (head a (b ∷ c ∷ d ∷ []) e) (head b (c ∷ d ∷ []) p) (head c (d ∷ []) q) (head d [] (tail c (d ∷ []) q));
      publish = λ a b e. may_publish-image by_number numbers by_name names (name_of here rows) (has_name here rows) (names_alike here rows table) (name_kinds here rows) a b (head a (b ∷ []) e) (head b [] (tail a (b ∷ []) e));
      make = λ own made n up e. may_make-image by_number numbers by_name names (name_of here rows) (has_name here rows) (names_alike here rows table) (name_kinds here rows) own made n up
          (head own ((n ∷ []) ∷ []) e) (single n (head (n ∷ []) [] (tail own ((n ∷ []) ∷ []) e)));
      grant = λ a b c d up rise e.
          let p = tail a (b ∷ c ∷ d ∷ []) e in
          let q = tail b (c ∷ d ∷ []) p in
          can_grant-image by_number numbers by_name names (name_of here rows) (has_name here rows) (names_alike here rows table) (name_kinds here rows) a b c d up rise
          (head a (b ∷ c ∷ d ∷ []) e) (head b (c ∷ d ∷ []) p) (head c (d ∷ []) q) (head d [] (tail c (d ∷ []) q));
      mailbox = λ a b e. mailbox_rule-image by_number numbers by_name names (name_of here rows) (has_name here rows) (names_alike here rows table) (name_kinds here rows) a b (head a (b ∷ []) e) (head b [] (tail a (b ∷ []) e));
    }

pub labels_one_to_one : UnderEachTable LabelsAreOneToOne
labels_one_to_one here rows table = labels_of here rows table

pub same_answers : UnderEachTable SameAnswers
same_answers here rows table = answers_of here rows table

pub same_rules : UnderEachTable SameRules
same_rules here rows table = rules_of here rows table
