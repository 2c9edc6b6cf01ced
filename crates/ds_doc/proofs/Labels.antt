-- Labels of known categories.
use Rattle.std.proofs.Common.{◌≡◌, ◌≤◌, suc, ◌+◌, List, [], ◌∷◌, ◌++◌, length, Bool, true, false, ◌&&◌, ◌||◌, nat_le, refl, sym, ap, ◌∙◌, subst, arith, if◌then◌else◌}
use Rattle.std.specs.List.{list_all, list_any}
use Rattle.std.specs.declared.cmp.Ordering.{Ordering}
use Rattle.std.specs.declared.cmp.Ordering.TheVariants.{Less, Equal, Greater}
use Rattle.std.proofs.lemmas.Bool.{and_from, leb-true, le-leb}
use Rattle.ds_label.specs.declared.category.PubKey.{PubKey}
use Rattle.ds_label.specs.declared.category.Category.{Category}
use Rattle.ds_label.specs.Flow.{has, with_member, placed, same_label, IsRising}
use Rattle.ds_label.specs.Names.{by_name, category_cmp}
use Rattle.ds_label.proofs.Namings.{names}
use Rattle.ds_label.proofs.Members.{same-is, has-with_member, IsRising-with_member, IsRising-nil}
use Rattle.ds_plan.specs.Categories.{is_known}
use Rattle.ds_plan.specs.Keys.{same_key}
use Rattle.ds_plan.specs.declared.maker.Maker.{Maker}
use Rattle.ds_plan.specs.Documents.{stood, are_different, IsLabel}
use Rattle.ds_doc.specs.declared.draft.Placed.{Placed}
use Rattle.ds_doc.specs.declared.draft.CategoryName.{CategoryName}
use Rattle.ds_doc.specs.Names.{origin_of, same_named}
use Rattle.ds_doc.specs.Draft.{same_value}
use Rattle.ds_doc.specs.Rules.{has_each}
use Rattle.ds_doc.specs.Values.{category_of, joined, joined_each, label}
use Rattle.ds_doc.proofs.Faults.{and_first, and_second}
use Rattle.ds_doc.proofs.Known.{one_category}

-- ---- a test of each member

placed_all : (q : Category → Bool) (o : Ordering) (c first : Category) (others later : List Category) → q c ≡ true → list_all q (first ∷ others) ≡ true → list_all q later ≡ true
    → list_all q (placed o c first others later) ≡ true
placed_all q Less c first others later h e g = and_from (q c) (list_all q (first ∷ others)) h e
placed_all q Equal c first others later h e g = e
placed_all q Greater c first others later h e g = and_from (q first) (list_all q later) (and_first (q first) (list_all q others) e) g

with_all : (q : Category → Bool) (c : Category) (members : List Category) → q c ≡ true → list_all q members ≡ true → list_all q (with_member by_name c members) ≡ true
with_all q c [] h e = and_from (q c) true h refl
with_all q c (first ∷ others) h e =
    placed_all q (category_cmp c first) c first others (with_member by_name c others) h e (with_all q c others h (and_second (q first) (list_all q others) e))

if_all : (q : Category → Bool) (b : Bool) (xs ys : List Category) → list_all q xs ≡ true → list_all q ys ≡ true → list_all q (if b then xs else ys) ≡ true
if_all q true xs ys e g = e
if_all q false xs ys e g = g

joined_all : (q : Category → Bool) (keys : List PubKey) (members : List Category) (cs : List (Placed CategoryName)) → list_all q members ≡ true
    → list_all (λ c. q (category_of keys c)) cs ≡ true → list_all q (joined_each keys members cs) ≡ true
joined_all q keys members [] e g = e
joined_all q keys members (c ∷ cs) e g =
    let d = category_of keys c in
    joined_all q keys (joined members d) cs
    (if_all q (nat_le (length (with_member by_name d members)) 64) (with_member by_name d members) members
    (with_all q d members (and_first (q d) (list_all (λ x. q (category_of keys x)) cs) g) e) e)
    (and_second (q d) (list_all (λ x. q (category_of keys x)) cs) g)

pub label_all : (q : Category → Bool) (keys : List PubKey) (cs : List (Placed CategoryName)) → list_all (λ c. q (category_of keys c)) cs ≡ true → list_all q (label keys cs) ≡ true
unfolding label
label_all q keys cs e = joined_all q keys [] cs refl e

-- ---- it is a label

joined_is : (b : Bool) (wider members : List Category) → nat_le (length wider) 64 ≡ b → IsRising by_name wider → IsLabel members → IsLabel (if b then wider else members)
joined_is true wider members e rises is = (leb-true (length wider) 64 e, rises)
joined_is false wider members e rises is = is

each_is : (keys : List PubKey) (members : List Category) (cs : List (Placed CategoryName)) → IsLabel members → IsLabel (joined_each keys members cs)
each_is keys members [] is = is
each_is keys members (c ∷ cs) is =
    let wider = with_member by_name (category_of keys c) members in
    each_is keys (joined members (category_of keys c)) cs
    (joined_is (nat_le (length wider) 64) wider members refl (IsRising-with_member by_name names (category_of keys c) members is.1) is)

pub label_is : (keys : List PubKey) (cs : List (Placed CategoryName)) → IsLabel (label keys cs)
unfolding label
label_is keys cs = each_is keys [] cs (omega arith, IsRising-nil by_name)

-- ---- which members it has

placed_length : (o : Ordering) (c first : Category) (others later : List Category) → length later ≤ suc (length others) → length (placed o c first others later) ≤ suc (suc (length others))
placed_length Less c first others later h = omega arith
placed_length Equal c first others later h = omega arith
placed_length Greater c first others later h = omega (arith, h)

with_length : (c : Category) (members : List Category) → length (with_member by_name c members) ≤ suc (length members)
with_length c [] = omega arith
with_length c (first ∷ others) = placed_length (category_cmp c first) c first others (with_member by_name c others) (with_length c others)

or_joins : (a b c : Bool) → ((a || b) || c) ≡ (b || (a || c))
or_joins true true c = refl
or_joins true false c = refl
or_joins false b c = refl

joined_has : (keys : List PubKey) (d : Category) (members : List Category) (cs : List (Placed CategoryName)) → length members + length cs ≤ 64
    → has by_name d (joined_each keys members cs) ≡ (has by_name d members || list_any (λ c. by_name.same d (category_of keys c)) cs)
joined_has keys d members [] few = end (has by_name d members)
  where
    end : (b : Bool) → b ≡ (b || false)
    end true = refl
    end false = refl
joined_has keys d members (c ∷ cs) few =
    let x = category_of keys c in
    let wider = with_member by_name x members in
    let size = with_length x members in
    let fits : nat_le (length wider) 64 ≡ true = le-leb (length wider) 64 (omega (arith, few, size)) in
    let same : joined members x ≡ wider = rw fits refl in
    let rest = joined_has keys d wider cs (omega (arith, few, size)) in
    let grown = has-with_member by_name names d x members in
    let now : has by_name d (joined_each keys wider cs) ≡ (has by_name d members || (by_name.same d x || list_any (λ y. by_name.same d (category_of keys y)) cs))
    = rest ∙ ap (λ b. b || list_any (λ y. by_name.same d (category_of keys y)) cs) grown ∙ or_joins (by_name.same d x) (has by_name d members) (list_any (λ y. by_name.same d (category_of keys y)) cs) in
    subst (λ zs. has by_name d (joined_each keys zs cs) ≡ (has by_name d members || (by_name.same d x || list_any (λ y. by_name.same d (category_of keys y)) cs))) (sym same) now

pub label_has : (keys : List PubKey) (d : Category) (cs : List (Placed CategoryName)) → length cs ≤ 64 → has by_name d (label keys cs) ≡ list_any (λ c. by_name.same d (category_of keys c)) cs
unfolding label
label_has keys d cs few = joined_has keys d [] cs (omega (arith, few))

-- ---- equal labels are of the same categories

has_all : (members test : List Category) (d : Category) → list_all (λ c. has by_name c test) members ≡ true → has by_name d members ≡ true → has by_name d test ≡ true
has_all [] test d e h = absurd cc
has_all (c ∷ members) test d e h =
    cases (by_name.same d c) refl (has_all members test d (and_second (has by_name c test) (list_all (λ x. has by_name x test) members) e))
  where
    cases : (b : Bool) → by_name.same d c ≡ b → (has by_name d members ≡ true → has by_name d test ≡ true) → has by_name d test ≡ true
    cases true g rest =
        subst (λ x. has by_name x test ≡ true) (sym ((same-is by_name names d c).0 g)) (and_first (has by_name c test) (list_all (λ x. has by_name x test) members) e)
    cases false g rest = rest (rw g at h)

any_self : (keys : List PubKey) (cs : List (Placed CategoryName)) (x : Placed CategoryName) → list_any (λ c. by_name.same (category_of keys x) (category_of keys c)) (x ∷ cs) ≡ true
any_self keys cs x = rw ((same-is by_name names (category_of keys x) (category_of keys x)).1 refl) refl

module _ (keys : List PubKey) (makers : List Maker) (size : length makers ≡ length keys) (few : length keys ≤ 16) (different : are_different same_key keys ≡ true) where
  abbrev pub knows : Placed CategoryName → Bool
  knows c = is_known makers (origin_of c.value)

  found : (xs : List (Placed CategoryName)) (y : Placed CategoryName) → list_all knows xs ≡ true → knows y ≡ true
      → list_any (λ c. by_name.same (category_of keys y) (category_of keys c)) xs ≡ true → stood same_value xs y ≡ true
  found [] y e k h = absurd cc
  found (x ∷ xs) y e k h =
      either (by_name.same (category_of keys y) (category_of keys x)) (list_any (λ c. by_name.same (category_of keys y) (category_of keys c)) xs) (same_named x.value y.value) (stood same_value xs y)
      (λ g. one_category keys makers x.value y.value size few different (and_first (knows x) (list_all knows xs) e) k
      ((same-is by_name names (category_of keys x) (category_of keys y)).1 (sym ((same-is by_name names (category_of keys y) (category_of keys x)).0 g))))
      (found xs y (and_second (knows x) (list_all knows xs) e) k) h
    where
      either : (a b c d : Bool) → (a ≡ true → c ≡ true) → (b ≡ true → d ≡ true) → (a || b) ≡ true → (c || d) ≡ true
      either true b c d f g i = rw (f refl) refl
      either false b true d f g i = refl
      either false b false d f g i = g i

  each_found : (xs ys zs : List (Placed CategoryName)) → length xs ≤ 64 → list_all knows xs ≡ true → list_all knows zs ≡ true
      → list_all (λ z. has by_name (category_of keys z) (label keys xs)) zs ≡ true → list_all (λ z. stood same_value xs z) zs ≡ true
  each_found xs ys [] short e g h = refl
  each_found xs ys (z ∷ zs) short e g h =
      let here = and_first (has by_name (category_of keys z) (label keys xs)) (list_all (λ y. has by_name (category_of keys y) (label keys xs)) zs) h in
      and_from (stood same_value xs z) (list_all (λ y. stood same_value xs y) zs)
      (found xs z e (and_first (knows z) (list_all knows zs) g) (sym (label_has keys (category_of keys z) xs short) ∙ here))
      (each_found xs ys zs short e (and_second (knows z) (list_all knows zs) g) (and_second (has by_name (category_of keys z) (label keys xs)) (list_all (λ y. has by_name (category_of keys y) (label keys xs)) zs) h))

  -- each category of the second list is a member of its label
  each_has : (front ys : List (Placed CategoryName)) (test : List Category) → ((d : Category) → list_any (λ c. by_name.same d (category_of keys c)) (front ++ ys) ≡ true → has by_name d test ≡ true)
      → list_all (λ y. has by_name (category_of keys y) test) ys ≡ true
  each_has front [] test f = refl
  each_has front (y ∷ ys) test f =
      and_from (has by_name (category_of keys y) test) (list_all (λ z. has by_name (category_of keys z) test) ys)
      (f (category_of keys y) (any_behind (λ c. by_name.same (category_of keys y) (category_of keys c)) front (y ∷ ys) (any_self keys ys y)))
      (each_has (front ++ y ∷ []) ys test (λ d h. f d (subst (λ zs. list_any (λ c. by_name.same d (category_of keys c)) zs ≡ true) (Rattle.std.proofs.lemmas.List.append_assoc front (y ∷ []) ys) h)))
    where
      any_behind : (p : Placed CategoryName → Bool) (zs ws : List (Placed CategoryName)) → list_any p ws ≡ true → list_any p (zs ++ ws) ≡ true
      any_behind p [] ws h = h
      any_behind p (z ∷ zs) ws h = later (p z) (list_any p (zs ++ ws)) (any_behind p zs ws h)
        where
          later : (a b : Bool) → b ≡ true → (a || b) ≡ true
          later true b g = refl
          later false b g = g

  pub one_side : (xs ys : List (Placed CategoryName)) → length xs ≤ 64 → length ys ≤ 64 → list_all knows xs ≡ true → list_all knows ys ≡ true
      → list_all (λ c. has by_name c (label keys xs)) (label keys ys) ≡ true → has_each xs ys ≡ true
  one_side xs ys short few_ys e g h =
      each_found xs ys ys short e g
      (each_has [] ys (label keys xs) (λ d k. has_all (label keys ys) (label keys xs) d h (label_has keys d ys few_ys ∙ k)))

  pub one_label : (xs ys : List (Placed CategoryName)) → length xs ≤ 64 → length ys ≤ 64 → list_all knows xs ≡ true → list_all knows ys ≡ true
      → same_label by_name (label keys xs) (label keys ys) ≡ true → (has_each xs ys && has_each ys xs) ≡ true
  unfolding same_label
  one_label xs ys few_xs few_ys e g h =
      let first = and_first (list_all (λ c. has by_name c (label keys ys)) (label keys xs)) (list_all (λ c. has by_name c (label keys xs)) (label keys ys)) h in
      let second = and_second (list_all (λ c. has by_name c (label keys ys)) (label keys xs)) (list_all (λ c. has by_name c (label keys xs)) (label keys ys)) h in
      and_from (has_each xs ys) (has_each ys xs) (one_side xs ys few_xs few_ys e g second) (one_side ys xs few_ys few_xs g e first)
