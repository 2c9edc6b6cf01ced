-- The merged list is in order, has all events, and is the only such list.
use Rattle.std.proofs.Common.{◌≡◌, List, [], ◌∷◌, Bool, true, false, cond, refl, sym, ◌∙◌, filter}
use Rattle.std.specs.Ordering.{is_lt}
use Rattle.std.specs.Cmp.{IsStrictWeakOrder}
use Rattle.std.specs.List.Sorted.{IsPermutation, ties}
use Rattle.std.proofs.lemmas.List.Sorted.{ranks_by, sorted_far, IsPermutation-refl, IsPermutation-cons, IsPermutation-trans, IsPermutation-sym, IsPermutation-middle}
use Rattle.ds_merge.specs.declared.recorded.Recorded.{Recorded}
use Rattle.ds_merge.specs.declared.records.ActorRecord.{ActorRecord}
use Rattle.ds_merge.specs.declared.order.EventKey.{EventKey}
use Rattle.ds_merge.specs.Order.{key_cmp, key_of, is_before, put_in, in_order, all_events, merged, IsMerged}
use Rattle.ds_merge.proofs.Derived.{key_total}
use Rattle.ds_merge.proofs.Ordered.{Ahead, Ascends, ascends_from, sorted_from, clash, neither_by, one_list}

pub before_ranks : IsStrictWeakOrder is_before
before_ranks = ranks_by key_total key_of

pub places_rank : {X : Type 0} (key : X → EventKey) → IsStrictWeakOrder (λ x y. is_lt (key_cmp (key x) (key y)))
places_rank key = ranks_by key_total key

-- ---- in order

ahead_put : (x e : Recorded) (xs : List Recorded) → is_before e x ≡ false → Ahead is_before x xs → Ahead is_before x (put_in e xs)
ahead_put x e [] h a = (h, tt)
ahead_put x e (y ∷ ys) h a = by (is_before y e) (ahead_put x e ys h a.1)
  where
    by : (b : Bool) → Ahead is_before x (put_in e ys) → Ahead is_before x (cond b (y ∷ put_in e ys) (e ∷ y ∷ ys))
    by true rest = (a.0, rest)
    by false rest = (h, a)

ahead_all : (x e : Recorded) (ys : List Recorded) → is_before x e ≡ false → Ahead is_before x ys → Ahead is_before e ys
ahead_all x e [] h a = tt
ahead_all x e (y ∷ ys) h a = (before_ranks.chain y x e a.0 h, ahead_all x e ys h a.1)

ascends_put : (e : Recorded) (xs : List Recorded) → Ascends is_before xs → Ascends is_before (put_in e xs)
ascends_put e [] a = (tt, tt)
ascends_put e (x ∷ xs) a = by (is_before x e) refl (ascends_put e xs a.1)
  where
    by : (b : Bool) → is_before x e ≡ b → Ascends is_before (put_in e xs) → Ascends is_before (cond b (x ∷ put_in e xs) (e ∷ x ∷ xs))
    by true h rest = (ahead_put x e xs (before_ranks.one_way x e h) a.0, rest)
    by false h rest = ((h, ahead_all x e xs h a.0), a)

pub ascends : (es : List Recorded) → Ascends is_before (in_order es)
unfolding in_order
ascends [] = tt
ascends (e ∷ es) = ascends_put e (in_order es) (ascends es)

-- ---- those that tie keep their order

swapped : (s t : Bool) (x e : Recorded) (rest : List Recorded) → (s ≡ true → t ≡ true → ⊥) → cond s (x ∷ cond t (e ∷ rest) rest) (cond t (e ∷ rest) rest) ≡ cond t (e ∷ cond s (x ∷ rest) rest) (cond s (x ∷ rest) rest)
swapped true true x e rest apart = absurd (apart refl refl)
swapped true false x e rest apart = refl
swapped false true x e rest apart = refl
swapped false false x e rest apart = refl

stable_put : (z e : Recorded) (xs : List Recorded) → filter (ties is_before z) (put_in e xs) ≡ filter (ties is_before z) (e ∷ xs)
stable_put z e [] = refl
stable_put z e (x ∷ xs) = by (is_before x e) refl (stable_put z e xs)
  where
    apart : is_before x e ≡ true → ties is_before z x ≡ true → ties is_before z e ≡ true → ⊥
    apart h s t = clash (before_ranks.chain x z e (neither_by (is_before z x) (is_before x z) s).1 (neither_by (is_before z e) (is_before e z) t).0) h

    by : (b : Bool) → is_before x e ≡ b → filter (ties is_before z) (put_in e xs) ≡ filter (ties is_before z) (e ∷ xs)
        → filter (ties is_before z) (cond b (x ∷ put_in e xs) (e ∷ x ∷ xs)) ≡ filter (ties is_before z) (e ∷ x ∷ xs)
    by true h rest = (λ i. cond (ties is_before z x) (x ∷ rest i) (rest i)) ∙ swapped (ties is_before z x) (ties is_before z e) x e (filter (ties is_before z) xs) (apart h)
    by false h rest = refl

pub stable : (z : Recorded) (es : List Recorded) → filter (ties is_before z) (in_order es) ≡ filter (ties is_before z) es
unfolding in_order
stable z [] = refl
stable z (e ∷ es) = stable_put z e (in_order es) ∙ (λ i. cond (ties is_before z e) (e ∷ stable z es i) (stable z es i))

-- ---- all events

all_put : (e : Recorded) (xs : List Recorded) → IsPermutation (e ∷ xs) (put_in e xs)
all_put e [] = IsPermutation-refl (e ∷ [])
all_put e (x ∷ xs) = by (is_before x e) (all_put e xs)
  where
    by : (b : Bool) → IsPermutation (e ∷ xs) (put_in e xs) → IsPermutation (e ∷ x ∷ xs) (cond b (x ∷ put_in e xs) (e ∷ x ∷ xs))
    by true rest = IsPermutation-trans (e ∷ x ∷ xs) (x ∷ e ∷ xs) (x ∷ put_in e xs) (IsPermutation-sym (x ∷ e ∷ xs) (e ∷ x ∷ xs) (IsPermutation-middle (x ∷ []) e xs)) (IsPermutation-cons x (e ∷ xs) (put_in e xs) rest)
    by false rest = IsPermutation-refl (e ∷ x ∷ xs)

all_of : (es : List Recorded) → IsPermutation es (in_order es)
unfolding in_order
all_of [] = IsPermutation-refl []
all_of (e ∷ es) = IsPermutation-trans (e ∷ es) (e ∷ in_order es) (put_in e (in_order es)) (IsPermutation-cons e es (in_order es) (all_of es)) (all_put e (in_order es))

pub is_merged : (records : List ActorRecord) → IsMerged records (merged records)
is_merged records =
    record {
      all = all_of (all_events records);
      sorted = sorted_from is_before (merged records) (ascends (all_events records));
      stable = λ e. stable e (all_events records);
    }

-- a list that is sorted and has the same events at each tie is the list in order
pub in_order_is : (es xs : List Recorded) → Ascends is_before es → ((e : Recorded) → filter (ties is_before e) es ≡ filter (ties is_before e) xs) → es ≡ in_order xs
in_order_is es xs up same = one_list is_before before_ranks es (in_order xs) up (ascends xs) (λ e. same e ∙ sym (stable e xs))

pub is_only : (records : List ActorRecord) (es : List Recorded) → IsMerged records es → es ≡ merged records
is_only records es m = in_order_is es (all_events records) (ascends_from is_before es (sorted_far is_before before_ranks es m.sorted)) m.stable
