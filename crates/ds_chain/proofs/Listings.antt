-- What a sorted list of postings says of the places of a category.
use Rattle.std.proofs.Common.{◌≡◌, ℕ, zero, suc, ◌+◌, ◌-◌, ◌<◌, ◌≤◌, Bool, true, false, List, [], ◌∷◌, ◌++◌, map, length, take, drop, get_or, Some, None, refl, sym, ap, ◌∙◌, subst, ◌⊎◌, inl, inr, arith, append-nil, append_assoc, take-append-drop, get_or-drop, length-drop, Less, Equal, Greater, Ordering, is_eq, is_lt, is_le, nat_lt, nat_le}
use Rattle.std.specs.Prelude.{Option, slice_get}
use Rattle.std.specs.List.{AllByRecursion, AllWithin, insert}
use Rattle.std.specs.List.Sorted.{IsNonDecreasingBy, IsPartitionPoint}
use Rattle.std.specs.Ordering.{ordering_index}
use Rattle.std.specs.Cmp.{Equal-is}
use Rattle.std.proofs.lemmas.Bool.{cases_order, false≢true}
use Rattle.std.proofs.lemmas.List.{drop_more, map-append, take_more}
use Rattle.std.proofs.lemmas.List.Sorted.{IsNonDecreasingBy-insert, IsNonDecreasingBy-short}
use Rattle.std.proofs.lemmas.Option.{slice_get_within, get_or_from_slice_get}
use Rattle.ds_label.specs.declared.category.Category.{Category}
use Rattle.ds_label.specs.Names.{by_name, same_category, category_cmp}
use Rattle.ds_label.proofs.Namings.{names}
use Rattle.ds_label.proofs.Members.{same-is}
use Rattle.ds_cert.specs.declared.delegation.Delegation.{Delegation}
use Rattle.ds_chain.specs.declared.edge.Edge.{Edge}
use Rattle.ds_chain.specs.declared.place_index.Posting.{Posting}
use Rattle.ds_label.specs.declared.category.PubKey.{PubKey}
use Rattle.ds_chain.specs.Delegated.{hop_of, hops_of_list}
use Rattle.ds_chain.specs.Postings.{AreIndexed, AreSorted, is_below, is_upto, listed, places_from, places_in, rank}

-- ---- how postings compare

index_below : (o : Ordering) → is_lt o ≡ nat_lt (ordering_index o) 1
index_below Less = refl
index_below Equal = refl
index_below Greater = refl

index_upto : (o : Ordering) → is_le o ≡ nat_le (ordering_index o) 1
index_upto Less = refl
index_upto Equal = refl
index_upto Greater = refl

pub below_by : (category : Category) (p : Posting) (b : Bool) → b ≡ is_lt (category_cmp p.category category) → b ≡ is_below category p
below_by category p b e = e ∙ index_below (category_cmp p.category category)

pub upto_by : (category : Category) (p : Posting) (b : Bool) → b ≡ is_le (category_cmp p.category category) → b ≡ is_upto category p
upto_by category p b e = e ∙ index_upto (category_cmp p.category category)

-- below the category or above it, a posting is for another
below_other : (o : Ordering) → nat_lt (ordering_index o) 1 ≡ true → is_eq o ≡ false
below_other Less e = refl
below_other Equal e = absurd (false≢true e)
below_other Greater e = absurd (false≢true e)

above_other : (o : Ordering) → nat_le (ordering_index o) 1 ≡ false → is_eq o ≡ false
above_other Less e = absurd (false≢true (sym e))
above_other Equal e = absurd (false≢true (sym e))
above_other Greater e = refl

between_same : (o : Ordering) → nat_lt (ordering_index o) 1 ≡ false → nat_le (ordering_index o) 1 ≡ true → is_eq o ≡ true
between_same Less e f = absurd (false≢true (sym e))
between_same Equal e f = refl
between_same Greater e f = absurd (false≢true f)

less_rises : (x y q : Category) (o : Ordering) → category_cmp x y ≡ Less → category_cmp y q ≡ o → ordering_index (category_cmp x q) ≤ ordering_index (category_cmp y q)
less_rises x y q Less below e = let f : category_cmp x q ≡ Less = names.total.trans x y q below e in rw f (rw e (omega arith))
less_rises x y q Equal below e = let f : category_cmp x q ≡ Less = subst (λ z. category_cmp x z ≡ Less) (names.exact y q e) below in rw f (omega arith)
less_rises x y q Greater below e = rw e (most (category_cmp x q))
  where
    most : (o : Ordering) → ordering_index o ≤ 2
    most Less = omega arith
    most Equal = omega arith
    most Greater = omega arith

-- what is up to another compares as no more
upto_rises : (x y q : Category) (o : Ordering) → category_cmp x y ≡ o → nat_le (ordering_index o) 1 ≡ true → ordering_index (category_cmp x q) ≤ ordering_index (category_cmp y q)
upto_rises x y q Less e f = less_rises x y q (category_cmp y q) e refl
upto_rises x y q Equal e f = subst (λ z. ordering_index (category_cmp x q) ≤ ordering_index (category_cmp z q)) (names.exact x y e) (omega arith)
upto_rises x y q Greater e f = absurd (false≢true f)

-- and what isn't, as no less
above_rises : (x y q : Category) (o : Ordering) → category_cmp x y ≡ o → nat_le (ordering_index o) 1 ≡ false → ordering_index (category_cmp y q) ≤ ordering_index (category_cmp x q)
above_rises x y q Less e f = absurd (false≢true (sym f))
above_rises x y q Equal e f = absurd (false≢true (sym f))
above_rises x y q Greater e f = less_rises y x q (category_cmp x q) (names.total.antisymm y x ∙ ap Rattle.std.specs.Ordering.ordering_reverse e) refl

-- a posting behind those up to its category
pub AreSorted-insert : (ps : List Posting) (end : ℕ) (new : Posting) → AreSorted ps → end ≤ length ps
    → IsPartitionPoint (λ p. is_upto new.category p ≡ true) (λ p. is_upto new.category p ≡ false) ps end → AreSorted (insert ps end new)
unfolding AreSorted
AreSorted-insert ps end new sorted within point category =
    IsNonDecreasingBy-insert (rank category) ps end new (sorted category) within
    (λ k d lt. upto_rises (get_or ps k d).category new.category category _ refl (point.0 k d (omega arith) lt))
    (λ k d le lt. above_rises (get_or ps k d).category new.category category _ refl (point.1 k d le lt))

-- so the ranks by each category rise
pub ranks_rise : (ps : List Posting) → AreSorted ps → (category : Category) → IsNonDecreasingBy (rank category) ps
unfolding AreSorted
ranks_rise ps sorted category = sorted category

pub AreSorted-none : AreSorted []
unfolding AreSorted
AreSorted-none category = IsNonDecreasingBy-short (rank category) [] (omega arith)

-- ---- parts of a list

module _ {X : Type 0} (P : X → Type 0) where
  of_front : (n : ℕ) (xs : List X) → AllWithin P xs 0 n → AllByRecursion P (take n xs)
  of_front zero xs all = tt
  of_front (suc n) [] all = tt
  of_front (suc n) (x ∷ xs) all = (all 0 x (omega arith) (omega arith), of_front n xs (λ k d le lt. all (suc k) d (omega arith) (omega arith)))

  of_list : (xs : List X) → AllWithin P xs 0 (length xs) → AllByRecursion P xs
  of_list [] all = tt
  of_list (x ∷ xs) all = (all 0 x (omega arith) (omega arith), of_list xs (λ k d le lt. all (suc k) d (omega arith) (omega arith)))

  of_middle : (n k : ℕ) (xs : List X) → AllWithin P xs n (n + k) → AllByRecursion P (take k (drop n xs))
  of_middle n k xs all = of_front k (drop n xs) (λ j d le lt. subst P (sym (get_or-drop n xs j d)) (all (n + j) d (omega arith) (omega arith)))

  of_back : (n : ℕ) (xs : List X) → AllWithin P xs n (length xs) → AllByRecursion P (drop n xs)
  of_back n xs all = of_list (drop n xs) (λ j d le lt. let long = length-drop n xs in subst P (sym (get_or-drop n xs j d)) (all (n + j) d (omega arith) (omega arith)))

-- ---- the places of a category

listed-append : (b : Bool) (n : ℕ) (ns ms : List ℕ) → listed b n ns ++ ms ≡ listed b n (ns ++ ms)
listed-append true n ns ms = refl
listed-append false n ns ms = refl

pub places_in-append : (category : Category) (ps qs : List Posting) → places_in category (ps ++ qs) ≡ places_in category ps ++ places_in category qs
places_in-append category [] qs = refl
places_in-append category (p ∷ ps) qs =
    ap (listed (same_category p.category category) p.place) (places_in-append category ps qs) ∙ sym (listed-append (same_category p.category category) p.place (places_in category ps) (places_in category qs))

none_in : (category : Category) (ps : List Posting) → AllByRecursion (λ p. same_category p.category category ≡ false) ps → places_in category ps ≡ []
none_in category [] all = refl
none_in category (p ∷ ps) all = ap (λ b. listed b p.place (places_in category ps)) all.0 ∙ none_in category ps all.1

each_in : (category : Category) (ps : List Posting) → AllByRecursion (λ p. same_category p.category category ≡ true) ps → map (λ p. p.place) ps ≡ places_in category ps
each_in category [] all = refl
each_in category (p ∷ ps) all = ap (λ ns. p.place ∷ ns) (each_in category ps all.1) ∙ ap (λ b. listed b p.place (places_in category ps)) (sym all.0)

tells : (p : Posting) (category : Category) (b : Bool) → is_eq (category_cmp p.category category) ≡ b → same_category p.category category ≡ b
tells p category b e = names.tells p.category category ∙ e

-- those between the postings below the category and those above it
pub places_between : (category : Category) (ps : List Posting) (from count : ℕ)
    → IsPartitionPoint (λ p. is_below category p ≡ true) (λ p. is_below category p ≡ false) ps from
    → IsPartitionPoint (λ p. is_upto category p ≡ true) (λ p. is_upto category p ≡ false) ps (from + count)
    → from + count ≤ length ps
    → map (λ p. p.place) (take count (drop from ps)) ≡ places_in category ps
places_between category ps from count low high within =
    let P : Posting → Type 0 = λ p. same_category p.category category ≡ false in
    let Q : Posting → Type 0 = λ p. same_category p.category category ≡ true in
    let front : places_in category (take from ps) ≡ [] =
    none_in category (take from ps) (of_front P from ps (λ k d le lt. tells (get_or ps k d) category false (below_other _ (low.0 k d le lt)))) in
    let middle : map (λ p. p.place) (take count (drop from ps)) ≡ places_in category (take count (drop from ps)) =
    each_in category (take count (drop from ps)) (of_middle Q from count ps (λ k d le lt. tells (get_or ps k d) category true (between_same _ (low.1 k d le (omega arith)) (high.0 k d (omega arith) lt)))) in
    let back : places_in category (drop count (drop from ps)) ≡ [] =
    none_in category (drop count (drop from ps))
    (of_back P count (drop from ps) (λ k d le lt. let long = length-drop from ps in
    subst P (sym (get_or-drop from ps k d)) (tells (get_or ps (from + k) d) category false (above_other _ (high.1 (from + k) d (omega arith) (omega arith)))))) in
    let rest : places_in category (drop from ps) ≡ places_in category (take count (drop from ps)) =
    ap (places_in category) (sym (take-append-drop count (drop from ps))) ∙ places_in-append category (take count (drop from ps)) (drop count (drop from ps))
    ∙ ap (λ ns. places_in category (take count (drop from ps)) ++ ns) back ∙ append-nil (places_in category (take count (drop from ps))) in
    let whole : places_in category ps ≡ places_in category (drop from ps) =
    ap (places_in category) (sym (take-append-drop from ps)) ∙ places_in-append category (take from ps) (drop from ps) ∙ ap (λ ns. ns ++ places_in category (drop from ps)) front in
    middle ∙ sym (whole ∙ rest)

low_high : (o : Ordering) → nat_lt (ordering_index o) 1 ≡ true → nat_le (ordering_index o) 1 ≡ false → ⊥
low_high Less e f = false≢true (sym f)
low_high Equal e f = false≢true e
low_high Greater e f = false≢true e

-- those below a category end where those up to it end, or before
pub from_to : (category : Category) (ps : List Posting) (from to : ℕ)
    → IsPartitionPoint (λ p. is_below category p ≡ true) (λ p. is_below category p ≡ false) ps from
    → IsPartitionPoint (λ p. is_upto category p ≡ true) (λ p. is_upto category p ≡ false) ps to
    → from ≤ length ps → from ≤ to
from_to category ps from to low high within = go (cases_order from to)
  where
    go : (from ≡ to) ⊎ ((from < to) ⊎ (to < from)) → from ≤ to
    go (inl e) = omega arith
    go (inr (inl lt)) = omega arith
    go (inr (inr gt)) =
        let d : Posting = record { category = category; place = 0 } in
        absurd (low_high (category_cmp (get_or ps to d).category category) (low.0 to d (omega arith) gt) (high.1 to d (omega arith) (omega arith)))

pub places_ranged : (category : Category) (ps : List Posting) (from to : ℕ)
    → IsPartitionPoint (λ p. is_below category p ≡ true) (λ p. is_below category p ≡ false) ps from
    → IsPartitionPoint (λ p. is_upto category p ≡ true) (λ p. is_upto category p ≡ false) ps to
    → from ≤ to → to ≤ length ps
    → map (λ p. p.place) (take (to - from) (drop from ps)) ≡ places_in category ps
places_ranged category ps from to low high order within =
    let e : to ≡ from + (to - from) = omega arith in
    places_between category ps from (to - from) low (subst (IsPartitionPoint (λ p. is_upto category p ≡ true) (λ p. is_upto category p ≡ false) ps) e high) (omega arith)

-- one more posting, behind those up to its category
pub places_in-insert : (ps : List Posting) (end : ℕ) (new : Posting)
    → IsPartitionPoint (λ p. is_upto new.category p ≡ true) (λ p. is_upto new.category p ≡ false) ps end
    → (c : Category) → places_in c (insert ps end new) ≡ places_in c ps ++ listed (same_category new.category c) new.place []
places_in-insert ps end new point c = places_in-append c (take end ps) (new ∷ drop end ps) ∙ by_test (same_category new.category c) refl
  where
    whole : places_in c (take end ps) ++ places_in c (drop end ps) ≡ places_in c ps
    whole = sym (places_in-append c (take end ps) (drop end ps)) ∙ ap (places_in c) (take-append-drop end ps)

    by_test : (b : Bool) → same_category new.category c ≡ b
        → places_in c (take end ps) ++ listed b new.place (places_in c (drop end ps)) ≡ places_in c ps ++ listed b new.place []
    by_test false e = whole ∙ sym (append-nil (places_in c ps))
    by_test true e =
        let same : new.category ≡ c = (same-is by_name names new.category c).0 e in
        let back : places_in c (drop end ps) ≡ [] =
        none_in c (drop end ps) (of_back (λ p. same_category p.category c ≡ false) end ps
        (λ k d le lt. tells (get_or ps k d) c false (above_other _ (subst (λ z. is_upto z (get_or ps k d) ≡ false) same (point.1 k d le lt))))) in
        let front : places_in c (take end ps) ≡ places_in c ps = sym (append-nil (places_in c (take end ps))) ∙ ap (λ ns. places_in c (take end ps) ++ ns) (sym back) ∙ whole in
        ap (λ ns. places_in c (take end ps) ++ new.place ∷ ns) back ∙ ap (λ ns. ns ++ new.place ∷ []) front

-- ---- the places of a list of delegations

places_from-push : (c : Category) (n m : ℕ) (certs : List Delegation) (cert : Delegation) → m ≡ n + length certs
    → places_from c n (certs ++ cert ∷ []) ≡ places_from c n certs ++ listed (same_category cert.category c) m []
places_from-push c n m [] cert e = let same : m ≡ n = omega arith in ap (λ k. listed (same_category cert.category c) k []) (sym same)
places_from-push c n m (d ∷ certs) cert e =
    ap (listed (same_category d.category c) n) (places_from-push c (n + 1) m certs cert (omega arith))
    ∙ sym (listed-append (same_category d.category c) n (places_from c (n + 1) certs) (listed (same_category cert.category c) m []))

-- a new delegation and its posting
pub AreIndexed-push : (certs : List Delegation) (cert : Delegation) (ps qs : List Posting) → AreIndexed certs ps
    → ((c : Category) → places_in c qs ≡ places_in c ps ++ listed (same_category cert.category c) (length certs) [])
    → AreIndexed (certs ++ cert ∷ []) qs
AreIndexed-push certs cert ps qs indexed kept c =
    kept c ∙ ap (λ ns. ns ++ listed (same_category cert.category c) (length certs) []) (indexed c) ∙ sym (places_from-push c 0 (length certs) certs cert (omega arith))

above_by : (n : ℕ) (ns : List ℕ) (m : ℕ) (ms : List ℕ) (b : Bool) → (ns ≡ m ∷ ms → n + 1 ≤ m) → listed b n ns ≡ m ∷ ms → n ≤ m
above_by n ns m ms true later e = let same : n ≡ m = cc in omega arith
above_by n ns m ms false later e = let high : n + 1 ≤ m = later e in omega arith

above : (c : Category) (n : ℕ) (certs : List Delegation) (m : ℕ) (ms : List ℕ) → places_from c n certs ≡ m ∷ ms → n ≤ m
above c n [] m ms e = absurd cc
above c n (d ∷ certs) m ms e = above_by n (places_from c (n + 1) certs) m ms (same_category d.category c) (above c (n + 1) certs m ms) e

get-drop : {X : Type 0} (xs : List X) (n : ℕ) (x : X) (ys : List X) → drop n xs ≡ x ∷ ys → slice_get xs n ≡ Some x
get-drop [] zero x ys e = absurd cc
get-drop [] (suc n) x ys e = absurd cc
get-drop (y ∷ xs) zero x ys e = cc
get-drop (y ∷ xs) (suc n) x ys e = get-drop xs n x ys e

drop-get : {X : Type 0} (xs : List X) (n : ℕ) (x : X) → slice_get xs n ≡ Some x → drop n xs ≡ x ∷ drop (n + 1) xs
drop-get xs n x e = drop_more xs n x (slice_get_within xs n x e) ∙ ap (λ y. y ∷ drop (n + 1) xs) (get_or_from_slice_get xs n x x e)

module _ (c : Category) (ns : List ℕ) (next place : ℕ) (certs : List Delegation) (cert : Delegation) (there : place < length certs) (is : get_or certs place cert ≡ cert)
    (left : drop next ns ≡ places_from c place (drop place certs)) where
  opened : drop next ns ≡ listed (same_category cert.category c) place (places_from c (place + 1) (drop (place + 1) certs))
  opened = left ∙ ap (places_from c place) (drop_more certs place cert there ∙ ap (λ d. d ∷ drop (place + 1) certs) is)

  -- the next place is this one
  pub listed_here : slice_get ns next ≡ Some place → drop (next + 1) ns ≡ places_from c (place + 1) (drop (place + 1) certs)
  listed_here e = by_test (same_category cert.category c) refl
    where
      first : place ∷ drop (next + 1) ns ≡ listed (same_category cert.category c) place (places_from c (place + 1) (drop (place + 1) certs))
      first = sym (drop-get ns next place e) ∙ opened

      by_test : (b : Bool) → same_category cert.category c ≡ b → drop (next + 1) ns ≡ places_from c (place + 1) (drop (place + 1) certs)
      by_test true f =
          let both : place ∷ drop (next + 1) ns ≡ place ∷ places_from c (place + 1) (drop (place + 1) certs) =
          first ∙ ap (λ b. listed b place (places_from c (place + 1) (drop (place + 1) certs))) f in cc
      by_test false f =
          let high = above c (place + 1) (drop (place + 1) certs) place (drop (next + 1) ns)
          (sym (first ∙ ap (λ b. listed b place (places_from c (place + 1) (drop (place + 1) certs))) f)) in absurd (omega arith)

  -- it is another: then this delegation is for another category
  pub listed_later : (slice_get ns next ≡ Some place → ⊥) → (drop next ns ≡ places_from c (place + 1) (drop (place + 1) certs)) × (same_category cert.category c ≡ false)
  listed_later apart = by_test (same_category cert.category c) refl
    where
      by_test : (b : Bool) → same_category cert.category c ≡ b → (drop next ns ≡ places_from c (place + 1) (drop (place + 1) certs)) × (same_category cert.category c ≡ false)
      by_test true f = absurd (apart (get-drop ns next place _ (opened ∙ ap (λ b. listed b place (places_from c (place + 1) (drop (place + 1) certs))) f)))
      by_test false f = (opened ∙ ap (λ b. listed b place (places_from c (place + 1) (drop (place + 1) certs))) f, f)

-- a delegation for another category doesn't count
pub hop_of-other : (moment : ℕ) (c : Category) (cert : Delegation) → same_category cert.category c ≡ false → hop_of moment c cert ≡ None
hop_of-other moment c cert e = rw e refl

-- the edge of one delegation more
pub hops_more : (moment : ℕ) (c : Category) (certs : List Delegation) (place : ℕ) (cert : Delegation) → place < length certs → get_or certs place cert ≡ cert
    → (front edges : List (Option (Edge PubKey))) → edges ≡ front ++ hops_of_list moment c (take place certs)
    → edges ++ hop_of moment c cert ∷ [] ≡ front ++ hops_of_list moment c (take (place + 1) certs)
hops_more moment c certs place cert there is front edges e =
    let more : take (place + 1) certs ≡ take place certs ++ cert ∷ [] = take_more certs place cert there ∙ ap (λ d. take place certs ++ d ∷ []) is in
    ap (λ l. l ++ hop_of moment c cert ∷ []) e
    ∙ append_assoc front (hops_of_list moment c (take place certs)) (hop_of moment c cert ∷ [])
    ∙ ap (λ l. front ++ l) (sym (map-append (hop_of moment c) (take place certs) (cert ∷ [])) ∙ ap (hops_of_list moment c) (sym more))
