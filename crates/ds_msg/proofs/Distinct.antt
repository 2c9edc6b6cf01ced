-- Certificates that are each none of those before them are distinct, and the other way round.
use Rattle.std.proofs.Common.{◌≡◌, ℕ, Bool, true, false, ◌||◌, List, [], ◌∷◌, ◌++◌, refl, sym, ◌∙◌}
use Rattle.std.specs.List.{AllByRecursion, IsDistinct}
use Rattle.std.specs.Str.{bytes_eq}
use Rattle.std.proofs.lemmas.List.Folds.{list_any-append}
use Rattle.std.proofs.lemmas.Slice.Eq.{bytes_eq-Decides}
use Rattle.ds_msg.specs.Ranges.{is_among}

-- each of the second list is none of those before it, nor one of the first list
abbrev pub AreNew : List (List ℕ) → List (List ℕ) → Type 0
AreNew before [] = Unit {0}
AreNew before (first ∷ others) = (is_among first before ≡ false) × AreNew (before ++ first ∷ []) others

abbrev AreOthers : List (List ℕ) → List (List ℕ) → Type 0
AreOthers before certs = AllByRecursion (λ c. is_among c before ≡ false) certs

differs : (a b : List ℕ) → bytes_eq a b ≡ false → bytes_eq b a ≡ false
differs a b e = cases (bytes_eq b a) refl
  where
    cases : (r : Bool) → bytes_eq b a ≡ r → r ≡ false
    cases false f = refl
    cases true f =
        let same : b ≡ a = (bytes_eq-Decides b a).0 f in
        let equal : bytes_eq a b ≡ true = (bytes_eq-Decides a b).1 (sym same) in
        absurd cc

or_left : (a b : Bool) → (a || b) ≡ false → a ≡ false
or_left true b e = absurd cc
or_left false b e = refl

or_right : (a b : Bool) → (a || b) ≡ false → b ≡ false
or_right true b e = absurd cc
or_right false b e = e

-- c is none of those before, and not the first one
behind : (c first : List ℕ) (before : List (List ℕ)) → is_among c (before ++ first ∷ []) ≡ false → (is_among c before ≡ false) × (bytes_eq first c ≡ false)
behind c first before e =
    let both : (is_among c before || is_among c (first ∷ [])) ≡ false = sym (list_any-append (bytes_eq c) before (first ∷ [])) ∙ e in
    (or_left _ _ both, differs c first (or_left (bytes_eq c first) false (or_right _ _ both)))

behind_all : (first : List ℕ) (before certs : List (List ℕ)) → AreOthers (before ++ first ∷ []) certs → AreOthers before certs × AllByRecursion (λ c. bytes_eq first c ≡ false) certs
behind_all first before [] all = (tt, tt)
behind_all first before (c ∷ certs) all =
    let here = behind c first before all.0 in
    let later = behind_all first before certs all.1 in
    ((here.0, later.0), (here.1, later.1))

pub distinct_from_new : (before certs : List (List ℕ)) → AreNew before certs → AreOthers before certs × IsDistinct bytes_eq certs
unfolding IsDistinct
distinct_from_new before [] new = (tt, tt)
distinct_from_new before (first ∷ certs) new =
    let later = distinct_from_new (before ++ first ∷ []) certs new.1 in
    let both = behind_all first before certs later.0 in
    ((new.0, both.0), (both.1, later.1))

ahead : (c first : List ℕ) (before : List (List ℕ)) → is_among c before ≡ false → bytes_eq first c ≡ false → is_among c (before ++ first ∷ []) ≡ false
ahead c first before e f = list_any-append (bytes_eq c) before (first ∷ []) ∙ rw (e, differs first c f) refl

ahead_all : (first : List ℕ) (before certs : List (List ℕ)) → AreOthers before certs → AllByRecursion (λ c. bytes_eq first c ≡ false) certs → AreOthers (before ++ first ∷ []) certs
ahead_all first before [] all others = tt
ahead_all first before (c ∷ certs) all others = (ahead c first before all.0 others.0, ahead_all first before certs all.1 others.1)

new_from_distinct : (before certs : List (List ℕ)) → AreOthers before certs → IsDistinct bytes_eq certs → AreNew before certs
unfolding IsDistinct
new_from_distinct before [] all distinct = tt
new_from_distinct before (first ∷ certs) all distinct = (all.0, new_from_distinct (before ++ first ∷ []) certs (ahead_all first before certs all.1 distinct.0) distinct.1)

others_of_none : (certs : List (List ℕ)) → AreOthers [] certs
others_of_none [] = tt
others_of_none (c ∷ certs) = (refl, others_of_none certs)

pub all_new : (certs : List (List ℕ)) → IsDistinct bytes_eq certs → AreNew [] certs
all_new certs distinct = new_from_distinct [] certs (others_of_none certs) distinct
