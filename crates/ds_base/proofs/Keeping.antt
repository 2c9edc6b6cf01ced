-- The mark of a name in a list of names and marks, and what a change of the list does to it.
use Rattle.std.proofs.Common.{◌≡◌, ◌≢◌, ℕ, zero, suc, ◌<◌, ◌≤◌, List, [], ◌∷◌, ◌++◌, length, get_or, set, position, Some, None, Bool, true, false, if◌then◌else◌, refl, sym, ap, subst, ◌∙◌, arith}
use Rattle.std.proofs.lemmas.Bool.{false_from_ne_true}
use Rattle.std.proofs.lemmas.List.{get_or-set_same, get_or-set_other, length-set}
use Rattle.std.proofs.lemmas.List.Quantifiers.{position-Some}
use Rattle.std.proofs.lemmas.List.Sums.{fails_before_first}
use Rattle.std.proofs.lemmas.Slice.Eq.{bytes_eq-Decides}
use Rattle.std.proofs.lemmas.Grind.{common_steps}
use Rattle.std.specs.Str.{bytes_eq}
use Rattle.std.specs.List.{position_or_len}
use Rattle.ds_base.specs.Marks.{mark_of}

pub bytes_eq_same : (name : List ℕ) → bytes_eq name name ≡ true
bytes_eq_same name = (bytes_eq-Decides name name).1 refl

pub bytes_eq_other : (one other : List ℕ) → one ≢ other → bytes_eq one other ≡ false
bytes_eq_other one other differ = false_from_ne_true (bytes_eq one other) (λ e. differ ((bytes_eq-Decides one other).0 e))

pub position_None : (p : List ℕ × ℕ → Bool) (xs : List (List ℕ × ℕ)) (k : ℕ) (d : List ℕ × ℕ) → position p xs ≡ None → k < length xs → p (get_or xs k d) ≡ false
position_None p xs k d e lt =
    let past : length xs ≤ position_or_len p xs = grind (arith, common_steps) in
    fails_before_first p xs k d (omega (arith, past, lt))

-- the first of the name
pub mark_of-first : (ks : List (List ℕ × ℕ)) (name : List ℕ) (i : ℕ) (d : List ℕ × ℕ) → i < length ks → bytes_eq (get_or ks i d).0 name ≡ true → ((k : ℕ) → k < i → bytes_eq (get_or ks k d).0 name ≡ false) → mark_of ks name ≡ (get_or ks i d).1
mark_of-first [] name i d lt is none = absurd (omega (arith, lt))
mark_of-first (x ∷ xs) name zero d lt is none = rw is refl
mark_of-first (x ∷ xs) name (suc i) d lt is none = rw (none 0 (omega arith)) (mark_of-first xs name i d (omega (arith, lt)) is (λ k less. none (suc k) (omega (arith, less))))

-- none of the name
pub mark_of-none : (ks : List (List ℕ × ℕ)) (name : List ℕ) (d : List ℕ × ℕ) → ((k : ℕ) → k < length ks → bytes_eq (get_or ks k d).0 name ≡ false) → mark_of ks name ≡ 0
mark_of-none [] name d none = refl
mark_of-none (x ∷ xs) name d none = rw (none 0 (omega arith)) (mark_of-none xs name d (λ k less. none (suc k) (omega (arith, less))))

-- a change at another name
pub mark_of-set : (ks : List (List ℕ × ℕ)) (other : List ℕ) (i : ℕ) (y d : List ℕ × ℕ) → bytes_eq (get_or ks i d).0 other ≡ false → bytes_eq y.0 other ≡ false → mark_of (set ks i y) other ≡ mark_of ks other
mark_of-set [] other i y d was is = refl
mark_of-set (x ∷ xs) other zero y d was is = rw (was, is) refl
mark_of-set (x ∷ xs) other (suc i) y d was is = ap (λ n. if bytes_eq x.0 other then x.1 else n) (mark_of-set xs other i y d was is)

-- a name more at the end
pub mark_of-push : (ks : List (List ℕ × ℕ)) (other : List ℕ) (y : List ℕ × ℕ) → bytes_eq y.0 other ≡ false → mark_of (ks ++ y ∷ []) other ≡ mark_of ks other
mark_of-push [] other y is = rw is refl
mark_of-push (x ∷ xs) other y is = ap (λ n. if bytes_eq x.0 other then x.1 else n) (mark_of-push xs other y is)

pub mark_of-pushed : (ks : List (List ℕ × ℕ)) (name : List ℕ) (y d : List ℕ × ℕ) → ((k : ℕ) → k < length ks → bytes_eq (get_or ks k d).0 name ≡ false) → bytes_eq y.0 name ≡ true → mark_of (ks ++ y ∷ []) name ≡ y.1
mark_of-pushed [] name y d none is = rw is refl
mark_of-pushed (x ∷ xs) name y d none is = rw (none 0 (omega arith)) (mark_of-pushed xs name y d (λ k less. none (suc k) (omega (arith, less))) is)

-- what a look-up answers
pub mark_of-Some : (ks : List (List ℕ × ℕ)) (name : List ℕ) (i : ℕ) (d : List ℕ × ℕ) → position (λ kept. bytes_eq kept.0 name) ks ≡ Some i → mark_of ks name ≡ (get_or ks i d).1
mark_of-Some ks name i d e =
    let at = position-Some (λ kept. bytes_eq kept.0 name) ks i d e in
    mark_of-first ks name i d at.0 at.1 at.2

pub mark_of-None : (ks : List (List ℕ × ℕ)) (name : List ℕ) → position (λ kept. bytes_eq kept.0 name) ks ≡ None → mark_of ks name ≡ 0
mark_of-None ks name e = mark_of-none ks name ([], 0) (λ k lt. position_None (λ kept. bytes_eq kept.0 name) ks k ([], 0) e lt)

-- the name at place i gets the number n
pub mark_of-raised : (ks : List (List ℕ × ℕ)) (name : List ℕ) (i n : ℕ) (kept : List ℕ × ℕ) → position (λ kept. bytes_eq kept.0 name) ks ≡ Some i → kept ≡ get_or ks i kept → mark_of (set ks i (kept.0, n)) name ≡ n
mark_of-raised ks name i n kept e stands =
    let at = position-Some (λ kept. bytes_eq kept.0 name) ks i kept e in
    let is : bytes_eq kept.0 name ≡ true = subst (λ (p : List ℕ × ℕ). bytes_eq p.0 name ≡ true) (sym stands) at.1 in
    let here : get_or (set ks i (kept.0, n)) i kept ≡ (kept.0, n) = get_or-set_same ks i (kept.0, n) kept at.0 in
    let before : (k : ℕ) → k < i → bytes_eq (get_or (set ks i (kept.0, n)) k kept).0 name ≡ false = λ k lt. rw (get_or-set_other ks i k (kept.0, n) kept (λ same. omega (arith, same, lt))) (at.2 k lt) in
    mark_of-first (set ks i (kept.0, n)) name i kept (rw (length-set ks i (kept.0, n)) at.0) (rw here is) before ∙ ap (λ (p : List ℕ × ℕ). p.1) here

pub mark_of-raised_other : (ks : List (List ℕ × ℕ)) (name other : List ℕ) (i n : ℕ) (kept : List ℕ × ℕ) → position (λ kept. bytes_eq kept.0 name) ks ≡ Some i → kept ≡ get_or ks i kept → other ≢ name → mark_of (set ks i (kept.0, n)) other ≡ mark_of ks other
mark_of-raised_other ks name other i n kept e stands differ =
    let at = position-Some (λ kept. bytes_eq kept.0 name) ks i kept e in
    let same : (get_or ks i kept).0 ≡ name = (bytes_eq-Decides (get_or ks i kept).0 name).0 at.1 in
    let no : bytes_eq (get_or ks i kept).0 other ≡ false = bytes_eq_other (get_or ks i kept).0 other (λ is. differ (sym is ∙ same)) in
    let here : bytes_eq kept.0 other ≡ false = subst (λ (p : List ℕ × ℕ). bytes_eq p.0 other ≡ false) (sym stands) no in
    mark_of-set ks other i (kept.0, n) kept no here

-- a new name gets the number n
pub mark_of-new : (ks : List (List ℕ × ℕ)) (name : List ℕ) (n : ℕ) → position (λ kept. bytes_eq kept.0 name) ks ≡ None → mark_of (ks ++ (name, n) ∷ []) name ≡ n
mark_of-new ks name n e = mark_of-pushed ks name (name, n) ([], 0) (λ k lt. position_None (λ kept. bytes_eq kept.0 name) ks k ([], 0) e lt) (bytes_eq_same name)

pub mark_of-new_other : (ks : List (List ℕ × ℕ)) (name other : List ℕ) (n : ℕ) → other ≢ name → mark_of (ks ++ (name, n) ∷ []) other ≡ mark_of ks other
mark_of-new_other ks name other n differ = mark_of-push ks other (name, n) (bytes_eq_other name other (λ is. differ (sym is)))
