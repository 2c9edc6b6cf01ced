-- A set of categories goes on having what texts name.
use Rattle.std.proofs.Common.{◌≡◌, ℕ, List, [], ◌∷◌, ◌++◌, Bor, Bool, true, false, ◌||◌, ◌&&◌, not, ◌==◌, nat_le, nat_eq, length, map, refl, sym, ap, ◌∙◌, subst, arith, if◌then◌else◌}
use Rattle.std.proofs.lemmas.Bool.Decides.{nat_tests}
use Rattle.std.proofs.lemmas.Bool.{and_from, eq-eqb}
use Rattle.std.specs.List.{list_any}
use Rattle.std.proofs.lemmas.List.Folds.{list_any-append}
use Rattle.std.proofs.lemmas.Slice.Eq.{bytes_eq-Decides}
use Rattle.std.specs.BTreeSet.{insert_key}
use Rattle.ds_label.specs.declared.category.Kind.{Kind}
use Rattle.ds_label.specs.declared.category.Kind.TheVariants.{Secrecy, Integrity}
use Rattle.ds_label.specs.Names.{same_kind}
use Rattle.ds_plan.specs.Documents.{stood}
use Rattle.ds_doc.specs.declared.draft.Placed.{Placed}
use Rattle.ds_doc.specs.declared.draft.HostName.{HostName}
use Rattle.ds_doc.specs.declared.draft.HostName.TheVariants.{Known, Unknown}
use Rattle.ds_doc.specs.declared.draft.CategoryName.{CategoryName}
use Rattle.ds_doc.specs.Places.{Spot, same_text}
use Rattle.ds_doc.specs.Names.{same_host, same_named}
use Rattle.ds_doc.specs.Draft.{category_named, same_value, with_one}
use Rattle.ds_doc.specs.Counting.{is_counted, AreCounted}
use Rattle.ds_doc.proofs.Faults.{and_first, and_second}
use Rattle.ds_doc.proofs.Once.{inserted, text_cmp, texts}

number_itself : (n : ℕ) → (n == n) ≡ true
number_itself n = eq-eqb n n refl

kind_itself : (k : Kind) → same_kind k k ≡ true
kind_itself Secrecy = refl
kind_itself Integrity = refl

host_itself : (h : HostName) → same_host h h ≡ true
host_itself (Known place) = number_itself place
host_itself (Unknown name) = (bytes_eq-Decides name name).1 refl

named_itself : (c : CategoryName) → same_named c c ≡ true
named_itself c =
    and_from (same_host c.host c.host && (c.process == c.process) && (c.number == c.number)) (same_kind c.kind c.kind)
    (and_from (same_host c.host c.host && (c.process == c.process)) (c.number == c.number)
    (and_from (same_host c.host c.host) (c.process == c.process) (host_itself c.host) (number_itself c.process)) (number_itself c.number)) (kind_itself c.kind)

or_left : (a b : Bool) → a ≡ true → (a || b) ≡ true
or_left true b e = refl
or_left false b e = absurd cc

or_right : (a b : Bool) → b ≡ true → (a || b) ≡ true
or_right true b e = refl
or_right false b e = e

first_of : (a b : Bool) → b ≡ false → (a || b) ≡ true → a ≡ true
first_of true b f e = refl
first_of false b f e = absurd cc

none_right : (a b : Bool) → (a || b) ≡ false → b ≡ false
none_right true b e = absurd cc
none_right false b e = e

kept_by : (most : ℕ) (set : List (Placed CategoryName)) (c d : Placed CategoryName) (b : Bool) → is_counted most set d ≡ b → is_counted most set c ≡ true
    → is_counted most (if b then set else set ++ d ∷ []) c ≡ true
kept_by most set c d true e h = h
kept_by most set c d false e h =
    or_left _ _ (list_any-append (λ y. same_value y c) set (d ∷ [])
    ∙ or_left (stood same_value set c) _ (first_of (stood same_value set c) (nat_le most (length set)) (none_right (stood same_value set d) (nat_le most (length set)) e) h))

kept : (most : ℕ) (set : List (Placed CategoryName)) (c d : Placed CategoryName) → is_counted most set c ≡ true → is_counted most (with_one most set d) c ≡ true
kept most set c d h = kept_by most set c d (is_counted most set d) refl h

now_by : (most : ℕ) (set : List (Placed CategoryName)) (c : Placed CategoryName) (b : Bool) → is_counted most set c ≡ b
    → is_counted most (if b then set else set ++ c ∷ []) c ≡ true
now_by most set c true e = e
now_by most set c false e =
    or_left _ _ (list_any-append (λ y. same_value y c) set (c ∷ [])
    ∙ or_right (stood same_value set c) _ (or_left (same_value c c) _ (named_itself c.value)))

now : (most : ℕ) (set : List (Placed CategoryName)) (c : Placed CategoryName) → is_counted most (with_one most set c) c ≡ true
now most set c = now_by most set c (is_counted most set c) refl

-- a category that is counted leaves the set as it is
pub skip : (most : ℕ) (set : List (Placed CategoryName)) (c : Placed CategoryName) → is_counted most set c ≡ true → set ≡ with_one most set c
skip most set c e = sym (ap (λ (b : Bool). if b then set else set ++ c ∷ []) e)

same_numbers : (x y : ℕ) → nat_eq x y ≡ true → x ≡ y
same_numbers x y e = grind (arith, nat_tests, e)

same_texts : (a b : List ℕ) → same_text a b ≡ true → a ≡ b
same_texts [] [] e = refl
same_texts [] (y ∷ ys) e = absurd cc
same_texts (x ∷ xs) [] e = absurd cc
same_texts (x ∷ xs) (y ∷ ys) e = ap (λ z. z ∷ xs) (same_numbers x y (and_first (nat_eq x y) (same_text xs ys) e)) ∙ ap (λ zs. y ∷ zs) (same_texts xs ys (and_second (nat_eq x y) (same_text xs ys) e))

one_of : (names : List (List ℕ)) (most : ℕ) (set : List (Placed CategoryName)) (k s : List ℕ) (at : ℕ) (rest b : Bool) → same_text k s ≡ b
    → ((at' : ℕ) → is_counted most set (record { at = at'; value = category_named names k }) ≡ true)
    → (rest ≡ true → is_counted most set (record { at = at; value = category_named names s }) ≡ true)
    → (b || rest) ≡ true → is_counted most set (record { at = at; value = category_named names s }) ≡ true
one_of names most set k s at rest true e mine others h = subst (λ t. is_counted most set (record { at = at; value = category_named names t }) ≡ true) (same_texts k s e) (mine at)
one_of names most set k s at rest false e mine others h = others h

with_text : (most : ℕ) (names : List (List ℕ)) (set : List (Placed CategoryName)) (old : List (Bor (List ℕ))) (k : Bor (List ℕ))
    → ((at : ℕ) → is_counted most set (record { at = at; value = category_named names k.now }) ≡ true)
    → AreCounted most names set (texts old) → AreCounted most names set (texts (insert_key text_cmp old k))
with_text most names set old k mine is = record {
  each = λ s at h. one_of names most set k.now s at (list_any (λ t. same_text t s) (texts old)) (same_text k.now s) refl mine (is.each s at) (sym (inserted old k s) ∙ h);
}

-- the text came before: the set stays, and has the categories of all texts
pub again : (most : ℕ) (names : List (List ℕ)) (set : List (Placed CategoryName)) (old new : List (Bor (List ℕ))) (k : Bor (List ℕ)) → new ≡ insert_key text_cmp old k
    → list_any (λ t. same_text t k.now) (texts old) ≡ true → AreCounted most names set (texts old) → AreCounted most names set (texts new)
again most names set old new k e before is = subst (λ ks. AreCounted most names set (texts ks)) (sym e) (with_text most names set old k (λ at. is.each k.now at before) is)

-- the text is new: with its category, the set has those of all texts
pub more : (most : ℕ) (names : List (List ℕ)) (set : List (Placed CategoryName)) (old new : List (Bor (List ℕ))) (k : Bor (List ℕ)) (at : ℕ) → new ≡ insert_key text_cmp old k
    → AreCounted most names set (texts old) → AreCounted most names (with_one most set (record { at = at; value = category_named names k.now })) (texts new)
more most names set old new k at e is =
    let c : Placed CategoryName = record { at = at; value = category_named names k.now } in
    subst (λ ks. AreCounted most names (with_one most set c) (texts ks)) (sym e)
    (with_text most names (with_one most set c) old k (λ at'. now most set c)
    (record { each = λ s at' h. kept most set (record { at = at'; value = category_named names s }) c (is.each s at' h) }))
