-- How many different texts a list has.
use Rattle.std.proofs.Common.{◌≡◌, ℕ, suc, ◌+◌, ◌<◌, ◌≤◌, List, [], ◌∷◌, ◌++◌, length, map, flat_map, Option, Some, None, Bool, true, false, nat_le, option_to_list, arith, refl, sym, ap}
use Rattle.std.proofs.lemmas.Bool.Decides.{nat_tests}
use Rattle.std.specs.List.{list_any}
use Rattle.std.proofs.lemmas.List.{length-map}
use Rattle.serde_json.specs.declared.value.Value.{Value}
use Rattle.serde_json.specs.View.{view}
use Rattle.serde_json.specs.Data.{Data}
use Rattle.serde_json.specs.Find.{as_str}
use Rattle.ds_doc.specs.Places.{same_text}
use Rattle.ds_doc.specs.Shapes.{different_from, different, text_of}

pushed : (before : List (List ℕ)) (s : List ℕ) → length (before ++ s ∷ []) ≡ suc (length before)
pushed [] s = refl
pushed (b ∷ bs) s = ap suc (pushed bs s)

grows_by : (before ss : List (List ℕ)) (s : List ℕ) (b : Bool) → list_any (λ t. same_text t s) before ≡ b
    → length before ≤ length (different_from before ss) → length (before ++ s ∷ []) ≤ length (different_from (before ++ s ∷ []) ss)
    → length before ≤ length (different_from before (s ∷ ss))
grows_by before ss s true e old new = rw e old
grows_by before ss s false e old new = rw e (omega (arith, new, pushed before s))

pub grows : (before texts : List (List ℕ)) → length before ≤ length (different_from before texts)
grows before [] = omega arith
grows before (s ∷ ss) = grows_by before ss s (list_any (λ t. same_text t s) before) refl (grows before ss) (grows (before ++ s ∷ []) ss)

at_most_by : (before ss : List (List ℕ)) (s : List ℕ) (b : Bool) → list_any (λ t. same_text t s) before ≡ b
    → length (different_from before ss) ≤ length before + length ss → length (different_from (before ++ s ∷ []) ss) ≤ length (before ++ s ∷ []) + length ss
    → length (different_from before (s ∷ ss)) ≤ length before + suc (length ss)
at_most_by before ss s true e old new = rw e (omega (arith, old))
at_most_by before ss s false e old new = rw e (omega (arith, new, pushed before s))

pub at_most : (before texts : List (List ℕ)) → length (different_from before texts) ≤ length before + length texts
at_most before [] = omega arith
at_most before (s ∷ ss) = at_most_by before ss s (list_any (λ t. same_text t s) before) refl (at_most before ss) (at_most (before ++ s ∷ []) ss)

texts_by : (o : Option (List ℕ)) (texts : List (List ℕ)) (n : ℕ) → length texts ≤ n → length (option_to_list o ++ texts) ≤ suc n
texts_by None texts n h = omega (arith, h)
texts_by (Some s) texts n h = omega (arith, h)

texts_few : (ds : List Data) → length (flat_map text_of ds) ≤ length ds
texts_few [] = omega arith
texts_few (d ∷ ds) = texts_by (as_str d) (flat_map text_of ds) (length ds) (texts_few ds)

joined_by : (before xs ys : List (List ℕ)) (x : List ℕ) (b : Bool) → list_any (λ t. same_text t x) before ≡ b
    → different_from (different_from before xs) ys ≡ different_from before (xs ++ ys)
    → different_from (different_from (before ++ x ∷ []) xs) ys ≡ different_from (before ++ x ∷ []) (xs ++ ys)
    → different_from (different_from before (x ∷ xs)) ys ≡ different_from before (x ∷ xs ++ ys)
joined_by before xs ys x true e old new = rw e old
joined_by before xs ys x false e old new = rw e new

small : (n most : ℕ) → n ≤ most → true ≡ nat_le n most
small n most h = grind (arith, nat_tests)

pub few_enough : (vs : List Value) (most : ℕ) → length vs ≤ most → true ≡ nat_le (length (different (flat_map text_of (map view vs)))) most
few_enough vs most h = small (length (different (flat_map text_of (map view vs)))) most (omega (arith, h, at_most [] (flat_map text_of (map view vs)), texts_few (map view vs), length-map vs view))

large : (n most : ℕ) → most < n → false ≡ nat_le n most
large n most h = grind (arith, nat_tests)

pub too_long : (before texts all : List (List ℕ)) (most : ℕ) → different_from before texts ≡ all → most < length before → false ≡ nat_le (length all) most
too_long before texts all most e h = rw (sym e) (large (length (different_from before texts)) most (omega (arith, h, grows before texts)))

pub joined : (before xs ys : List (List ℕ)) → different_from (different_from before xs) ys ≡ different_from before (xs ++ ys)
joined before [] ys = refl
joined before (x ∷ xs) ys = joined_by before xs ys x (list_any (λ t. same_text t x) before) refl (joined before xs ys) (joined (before ++ x ∷ []) xs ys)

pub unchanged : (before : List (List ℕ)) (s : List ℕ) → list_any (λ t. same_text t s) before ≡ true → before ≡ different_from before (s ∷ [])
unchanged before s e = rw e refl
