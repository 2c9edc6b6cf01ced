-- The shortest chain as a function is the shortest chain, and is none exactly where no chain leads to the key.
use Rattle.std.proofs.Common.{◌≡◌, ℕ, zero, suc, ◌+◌, ◌<◌, ◌≤◌, Bool, true, false, cond, List, [], ◌∷◌, length, refl, sym, ◌∙◌, ap, subst, ◌⊎◌, inl, inr, arith}
use Rattle.std.specs.Prelude.{Option, Some, None, option_map, slice_get, IsTrue, is_some}
use Rattle.std.proofs.lemmas.Bool.{cases_order, cond-true, false≢true}
use Rattle.std.proofs.lemmas.Option.{none-some, same_Some}
use Rattle.ds_chain.specs.declared.edge.Edge.{Edge}
use Rattle.ds_chain.specs.Keys.{IsSameness}
use Rattle.ds_chain.specs.Chain.{IsEdge, LeadsTo, IsLeastByPlaces, ComesFirst, IsShortestChain}
use Rattle.ds_chain.specs.Holding.{holds}
use Rattle.ds_chain.specs.Shortest.{or_else, first_answer, chain_by, least_chain, shortest_chain}
use Rattle.ds_chain.proofs.Chains.{hop_within, same_ends, only_shortest}
use Rattle.ds_chain.proofs.Holdings.{short, chain_of_holder, holds_by_chain}

-- what a first answer says
abbrev FirstAnswer : {A : Type 0} → (ℕ → Option A) → ℕ → ℕ → Option A → Type 0
FirstAnswer answer low count None = (n : ℕ) → low ≤ n → n < low + count → answer n ≡ None
FirstAnswer answer low count (Some x) = (n : ℕ) × (answer n ≡ Some x) × ((m : ℕ) → low ≤ m → m < n → answer m ≡ None)

first_answer_is : {A : Type 0} (answer : ℕ → Option A) (low count : ℕ) → FirstAnswer answer low count (first_answer answer low count)
first_answer_is answer low zero = λ n l h. absurd (omega arith)
first_answer_is {A} answer low (suc count) = at_low (answer low) refl (first_answer answer (suc low) count) (first_answer_is answer (suc low) count)
  where
    before : (n : ℕ) → answer low ≡ None → ((m : ℕ) → suc low ≤ m → m < n → answer m ≡ None) → (m : ℕ) → low ≤ m → m < n → answer m ≡ None
    before n e none m l h = at_order (cases_order m low)
      where
        at_order : (m ≡ low) ⊎ ((m < low) ⊎ (low < m)) → answer m ≡ None
        at_order (inl q) = ap answer q ∙ e
        at_order (inr (inl s)) = absurd (omega arith)
        at_order (inr (inr s)) = none m (omega arith) h

    at_low : (o : Option A) → answer low ≡ o → (rest : Option A) → FirstAnswer answer (suc low) count rest → FirstAnswer answer low (suc count) (or_else o rest)
    at_low (Some x) e rest p = (low, e, λ m l h. absurd (omega arith))
    at_low None e (Some x) (n, q, none) = (n, q, before n e none)
    at_low None e None none = λ n l h. before (low + suc count) e (λ m k j. none m k (omega arith)) n l h

-- what a chain by a edge says: the edge, and the rest of the chain
by_some : {K : Type 0} (same : K → K → Bool) (is_same : IsSameness same) (by : K) (place : ℕ) (rest : K → Option (List ℕ)) (entry : Option (Option (Edge K))) (places : List ℕ)
    → chain_by same by place rest entry ≡ Some places → (next : K) × (entry ≡ Some (Some (record { by = by; to = next }))) × (others : List ℕ) × (rest next ≡ Some others) × (place ∷ others ≡ places)
by_some same is_same by place rest None places e = absurd (none-some _ e)
by_some same is_same by place rest (Some None) places e = absurd (none-some _ e)
by_some {K} same is_same by place rest (Some (Some edge)) places e = at_test (same edge.by by) refl (rest edge.to) refl e
  where
    at_test : (b : Bool) → same edge.by by ≡ b → (o : Option (List ℕ)) → rest edge.to ≡ o → cond b (option_map (λ (l : List ℕ). place ∷ l) o) None ≡ Some places
        → (next : K) × (Some (Some edge) ≡ Some (Some (record { by = by; to = next }))) × (others : List ℕ) × (rest next ≡ Some others) × (place ∷ others ≡ places)
    at_test false t o r q = absurd (none-some _ q)
    at_test true t None r q = absurd (none-some _ q)
    at_test true t (Some others) r q =
        (edge.to, ap (λ (k : K). Some (Some (record { by = k; to = edge.to }))) ((is_same edge.by by).0 t), others, r, same_Some _ _ q)

-- what no chain by a edge says: no chain goes on from it
by_none : {K : Type 0} (same : K → K → Bool) (is_same : IsSameness same) (by next : K) (place : ℕ) (rest : K → Option (List ℕ)) (entry : Option (Option (Edge K)))
    → entry ≡ Some (Some (record { by = by; to = next })) → chain_by same by place rest entry ≡ None → rest next ≡ None
by_none {K} same is_same by next place rest entry h e = at_rest (rest next) refl at_hop
  where
    at_hop : cond (same by by) (option_map (λ (l : List ℕ). place ∷ l) (rest next)) None ≡ None
    at_hop = subst (λ (x : Option (Option (Edge K))). chain_by same by place rest x ≡ None) h e

    at_rest : (o : Option (List ℕ)) → rest next ≡ o → cond (same by by) (option_map (λ (l : List ℕ). place ∷ l) o) None ≡ None → rest next ≡ None
    at_rest None r q = r
    at_rest (Some others) r q = absurd (none-some _ (sym q ∙ cond-true (same by by) (Some (place ∷ others)) None ((is_same by by).1 refl)))

module _ {K : Type 0} (same : K → K → Bool) (is_same : IsSameness same) (edges : List (Option (Edge K))) (key : K) where
  -- an answer for the chains of n edges: the least of them, or that there is none
  abbrev Answer : ℕ → K → Option (List ℕ) → Type 0
  Answer n by None = (others : List ℕ) → LeadsTo edges by others key → length others ≡ n → ⊥
  Answer n by (Some places) = LeadsTo edges by places key × (length places ≡ n) × ((others : List ℕ) → LeadsTo edges by others key → length others ≡ n → IsLeastByPlaces places others)

  none_here : (by : K) → Answer zero by (least_chain same edges key zero by)
  none_here by = at_test (same by key) refl
    where
      at_test : (b : Bool) → same by key ≡ b → Answer zero by (cond b (Some []) None)
      at_test true e = ((is_same by key).0 e, refl, λ others p l. tt)
      at_test false e = none
        where
          none : (others : List ℕ) → LeadsTo edges by others key → length others ≡ 0 → ⊥
          none [] p l = false≢true (sym e ∙ (is_same by key).1 p)
          none (place ∷ places) p l = omega arith

  module _ (n : ℕ) (by : K) (rest : (next : K) → Answer n next (least_chain same edges key n next)) where
    -- no chain of n edges goes on from a edge at a place with no answer
    goes_nowhere : (place : ℕ) (next : K) → IsEdge edges place by next → chain_by same by place (least_chain same edges key n) (slice_get edges place) ≡ None
        → (others : List ℕ) → LeadsTo edges next others key → length others ≡ n → ⊥
    goes_nowhere place next h e =
        subst (λ (o : Option (List ℕ)). Answer n next o) (by_none same is_same by next place (least_chain same edges key n) (slice_get edges place) h e) (rest next)

    from_first : (o : Option (List ℕ)) → FirstAnswer (λ place. chain_by same by place (least_chain same edges key n) (slice_get edges place)) 0 (length edges) o → Answer (suc n) by o
    from_first None none = no_chain
      where
        no_chain : (others : List ℕ) → LeadsTo edges by others key → length others ≡ suc n → ⊥
        no_chain [] p l = omega arith
        no_chain (place ∷ places) (x, h, p) l = let w : place < length edges = hop_within edges place by x h in goes_nowhere place x h (none place (omega arith) (omega arith)) places p (omega arith)
    from_first (Some places) (place, e, earlier) =
        at_hop (by_some same is_same by place (least_chain same edges key n) (slice_get edges place) places e)
      where
        at_rest : (next : K) → IsEdge edges place by next → (tail : List ℕ) → Answer n next (Some tail) → Answer (suc n) by (Some (place ∷ tail))
        at_rest next h tail (p, l, least) = ((next, h, p), ap suc l, least_of)
          where
            at_order : (other : ℕ) (others : List ℕ) (x : K) → IsEdge edges other by x → LeadsTo edges x others key → length others ≡ n
                → (place ≡ other) ⊎ ((place < other) ⊎ (other < place)) → (place < other) ⊎ ((place ≡ other) × IsLeastByPlaces tail others)
            at_order other others x k q m (inl same_place) =
                let f : x ≡ next = (same_ends edges place by x by next (subst (λ (z : ℕ). IsEdge edges z by x) (sym same_place) k) h).1 in
                inr (same_place, least others (subst (λ (z : K). LeadsTo edges z others key) f q) m)
            at_order other others x k q m (inr (inl less)) = inl less
            at_order other others x k q m (inr (inr more)) = absurd (goes_nowhere other x k (earlier other (omega arith) more) others q m)

            least_of : (others : List ℕ) → LeadsTo edges by others key → length others ≡ suc n → IsLeastByPlaces (place ∷ tail) others
            least_of [] q m = tt
            least_of (other ∷ others) (x, k, q) m = at_order other others x k q (omega arith) (cases_order place other)

        at_hop : (next : K) × IsEdge edges place by next × (tail : List ℕ) × (least_chain same edges key n next ≡ Some tail) × (place ∷ tail ≡ places) → Answer (suc n) by (Some places)
        at_hop (next, h, tail, r, f) =
            subst (λ (l : List ℕ). Answer (suc n) by (Some l)) f (at_rest next h tail (subst (λ (o : Option (List ℕ)). Answer n next o) r (rest next)))

  least_is : (n : ℕ) (by : K) → Answer n by (least_chain same edges key n by)
  least_is zero by = none_here by
  least_is (suc n) by =
      from_first n by (least_is n) (least_chain same edges key (suc n) by)
      (first_answer_is (λ place. chain_by same by place (least_chain same edges key n) (slice_get edges place)) 0 (length edges))

  module _ (creator : K) where
    at_number : (n : ℕ) (o : Option (List ℕ)) → least_chain same edges key n creator ≡ o → Answer n creator o
    at_number n o e = subst (λ (x : Option (List ℕ)). Answer n creator x) e (least_is n creator)

    -- what the function says: the shortest chain, or that no chain leads to the key
    abbrev pub Says : Option (List ℕ) → Type 0
    Says None = (places : List ℕ) → LeadsTo edges creator places key → ⊥
    Says (Some places) = IsShortestChain edges creator places key

    from_numbers : (o : Option (List ℕ)) → FirstAnswer (λ n. least_chain same edges key n creator) 0 (suc (length edges)) o → Says o
    from_numbers None none = λ places p.
        let (others, l, q) = short edges key creator places p in
        at_number (length others) None (none (length others) (omega arith) (omega arith)) others q refl
    from_numbers (Some places) (n, e, earlier) = at_answer (at_number n (Some places) e)
      where
        at_answer : Answer n creator (Some places) → IsShortestChain edges creator places key
        at_answer (p, l, least) = record { leads = p; first = first_of }
          where
            at_order : (others : List ℕ) → LeadsTo edges creator others key → (length others ≡ n) ⊎ ((length others < n) ⊎ (n < length others)) → ComesFirst places others
            at_order others q (inl m) = inr (l ∙ sym m, least others q m)
            at_order others q (inr (inl m)) = absurd (at_number (length others) None (earlier (length others) (omega arith) m) others q refl)
            at_order others q (inr (inr m)) = inl (omega arith)

            first_of : (others : List ℕ) → LeadsTo edges creator others key → ComesFirst places others
            first_of others q = at_order others q (cases_order (length others) n)

    pub shortest_says : Says (shortest_chain same edges creator key)
    unfolding shortest_chain
    shortest_says = from_numbers (shortest_chain same edges creator key) (first_answer_is (λ n. least_chain same edges key n creator) 0 (suc (length edges)))

    -- the function gives the shortest chain
    pub shortest_given : (places : List ℕ) → shortest_chain same edges creator key ≡ Some places → IsShortestChain edges creator places key
    shortest_given places e = subst Says e shortest_says

    -- and it gives each
    pub given_shortest : (places : List ℕ) → IsShortestChain edges creator places key → shortest_chain same edges creator key ≡ Some places
    given_shortest places least = go (shortest_chain same edges creator key) shortest_says
      where
        go : (o : Option (List ℕ)) → Says o → o ≡ Some places
        go None none = absurd (none places least.leads)
        go (Some others) other = ap (λ (l : List ℕ). Some l) (only_shortest edges creator key others places other least)

    pub none_given : ((places : List ℕ) → LeadsTo edges creator places key → ⊥) → shortest_chain same edges creator key ≡ None
    none_given none = go (shortest_chain same edges creator key) shortest_says
      where
        go : (o : Option (List ℕ)) → Says o → o ≡ None
        go None s = refl
        go (Some others) other = absurd (none others other.leads)

    -- a key that holds has a shortest chain
    pub shortest_of_holder : IsTrue (holds same edges creator key) → (least : List ℕ) × IsShortestChain edges creator least key
    shortest_of_holder e = let (places, p) = chain_of_holder same is_same edges creator key e in go places p (shortest_chain same edges creator key) shortest_says
      where
        go : (places : List ℕ) → LeadsTo edges creator places key → (o : Option (List ℕ)) → Says o → (least : List ℕ) × IsShortestChain edges creator least key
        go places p None none = absurd (none places p)
        go places p (Some least) is = (least, is)

    -- a key holds exactly where the function gives a chain
    pub holds_given : holds same edges creator key ≡ is_some (shortest_chain same edges creator key)
    holds_given = go (holds same edges creator key) refl (shortest_chain same edges creator key) shortest_says
      where
        led : (h : Bool) → holds same edges creator key ≡ h → (places : List ℕ) → LeadsTo edges creator places key → h ≡ true
        led h e places p = sym e ∙ holds_by_chain same is_same edges creator key places p

        go : (h : Bool) → holds same edges creator key ≡ h → (o : Option (List ℕ)) → Says o → h ≡ is_some o
        go true e None none = let (places, p) = chain_of_holder same is_same edges creator key e in absurd (none places p)
        go false e None none = refl
        go h e (Some least) is = led h e least is.leads
