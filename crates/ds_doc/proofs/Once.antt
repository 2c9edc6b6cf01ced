-- A set that finds the texts which a list has.
use Rattle.std.proofs.Common.{◌≡◌, Ordering, Less, Equal, Greater, ℕ, List, [], ◌∷◌, ◌++◌, Bor, Bool, true, false, ◌||◌, ◌&&◌, not, map, nat_eq, arith, refl, sym, ap, ◌∙◌}
use Rattle.std.proofs.lemmas.Bool.Decides.{nat_tests}
use Rattle.std.specs.List.{list_any}
use Rattle.std.specs.Ordering.{nat_cmp, match_ordering}
use Rattle.std.specs.Cmp.Lexicographic.{slice_cmp}
use Rattle.std.specs.BTreeMap.{is_at}
use Rattle.std.specs.BTreeSet.{insert_key}
use Rattle.std.proofs.lemmas.Map.Lookups.{exact_bytes}
use Rattle.std.proofs.lemmas.Map.Text.{is_eq-slice_cmp}
use Rattle.ds_doc.specs.Places.{same_text}
use Rattle.ds_doc.specs.Alike.{AreAlike}
use Rattle.ds_doc.specs.Shapes.{different_from}

swap : (a b c : Bool) → (a || (b || c)) ≡ (b || (a || c))
swap true true c = refl
swap true false c = refl
swap false b c = refl

twice : (a b : Bool) → (a || b) ≡ (a || (a || b))
twice true b = refl
twice false b = refl

nat_swap : (x y : ℕ) → nat_eq x y ≡ nat_eq y x
nat_swap x y = grind (arith, nat_tests)

text_swap : (xs ys : List ℕ) → same_text xs ys ≡ same_text ys xs
text_swap [] [] = refl
text_swap [] (y ∷ ys) = refl
text_swap (x ∷ xs) [] = refl
text_swap (x ∷ xs) (y ∷ ys) = ap (λ (b : Bool). b && same_text xs ys) (nat_swap x y) ∙ ap (λ (b : Bool). nat_eq y x && b) (text_swap xs ys)

abbrev pub text_cmp : Bor (List ℕ) → Bor (List ℕ) → Ordering
text_cmp x y = slice_cmp nat_cmp x.now y.now

abbrev pub texts : List (Bor (List ℕ)) → List (List ℕ)
texts ts = map (λ t. t.now) ts

abbrev among : List ℕ → List (List ℕ) → Bool
among s ts = list_any (λ t. same_text t s) ts

inserted_by : (x k : Bor (List ℕ)) (xs : List (Bor (List ℕ))) (s : List ℕ) (o : Ordering) → text_cmp k x ≡ o
    → among s (texts (insert_key text_cmp xs k)) ≡ (same_text k.now s || among s (texts xs))
    → among s (texts (match_ordering o (k ∷ x ∷ xs) (x ∷ xs) (x ∷ insert_key text_cmp xs k)))
    ≡ (same_text k.now s || (same_text x.now s || among s (texts xs)))
inserted_by x k xs s Less e rest = refl
inserted_by x k xs s Equal e rest =
    let same : k.now ≡ x.now = exact_bytes k.now x.now e in
    twice (same_text x.now s) (among s (texts xs)) ∙ ap (λ (t : List ℕ). same_text t s || (same_text x.now s || among s (texts xs))) (sym same)
inserted_by x k xs s Greater e rest =
    ap (λ (b : Bool). same_text x.now s || b) rest ∙ swap (same_text x.now s) (same_text k.now s) (among s (texts xs))

pub inserted : (ks : List (Bor (List ℕ))) (k : Bor (List ℕ)) (s : List ℕ) → among s (texts (insert_key text_cmp ks k)) ≡ (same_text k.now s || among s (texts ks))
inserted [] k s = refl
inserted (x ∷ xs) k s = inserted_by x k xs s (text_cmp k x) refl (inserted xs k s)

pushed : (ts : List (Bor (List ℕ))) (k : Bor (List ℕ)) (s : List ℕ) → among s (texts (ts ++ k ∷ [])) ≡ (same_text k.now s || among s (texts ts))
pushed [] k s = refl
pushed (x ∷ xs) k s = ap (λ (b : Bool). same_text x.now s || b) (pushed xs k s) ∙ swap (same_text x.now s) (same_text k.now s) (among s (texts xs))

pub one_more : (old new ts : List (Bor (List ℕ))) (k : Bor (List ℕ)) → new ≡ insert_key text_cmp old k → AreAlike (texts old) (texts ts)
    → AreAlike (texts new) (texts (ts ++ k ∷ []))
one_more old new ts k e h =
    λ s. ap (λ (ks : List (Bor (List ℕ))). among s (texts ks)) e ∙ inserted old k s ∙ ap (λ (b : Bool). same_text k.now s || b) (h s) ∙ sym (pushed ts k s)

found : (ks : List (Bor (List ℕ))) (k : Bor (List ℕ)) → list_any (is_at (text_cmp k)) ks ≡ among k.now (texts ks)
found [] k = refl
found (x ∷ xs) k =
    ap (λ (b : Bool). b || list_any (is_at (text_cmp k)) xs) (is_eq-slice_cmp k.now x.now ∙ text_swap k.now x.now)
    ∙ ap (λ (b : Bool). same_text x.now k.now || b) (found xs k)

was_not : (b : Bool) → true ≡ not b → b ≡ false
was_not true e = absurd cc
was_not false e = refl

was : (b : Bool) → false ≡ not b → b ≡ true
was true e = refl
was false e = absurd cc

pub known : (ks ts : List (Bor (List ℕ))) (k : Bor (List ℕ)) → AreAlike (texts ks) (texts ts) → false ≡ not (list_any (is_at (text_cmp k)) ks)
    → among k.now (texts ts) ≡ true
known ks ts k h e = sym (h k.now) ∙ sym (found ks k) ∙ was (list_any (is_at (text_cmp k)) ks) e

pub unknown : (ks ts : List (Bor (List ℕ))) (k : Bor (List ℕ)) → AreAlike (texts ks) (texts ts) → true ≡ not (list_any (is_at (text_cmp k)) ks)
    → among k.now (texts ts) ≡ false
unknown ks ts k h e = sym (h k.now) ∙ sym (found ks k) ∙ was_not (list_any (is_at (text_cmp k)) ks) e

pushed_texts : (ts : List (Bor (List ℕ))) (k : Bor (List ℕ)) → texts (ts ++ k ∷ []) ≡ texts ts ++ k.now ∷ []
pushed_texts [] k = refl
pushed_texts (x ∷ xs) k = ap (λ (ss : List (List ℕ)). x.now ∷ ss) (pushed_texts xs k)

pub added : (ts : List (Bor (List ℕ))) (k : Bor (List ℕ)) → among k.now (texts ts) ≡ false → texts (ts ++ k ∷ []) ≡ different_from (texts ts) (k.now ∷ [])
added ts k e = pushed_texts ts k ∙ sym (rw e refl)
