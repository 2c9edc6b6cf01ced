-- Chains: where their places lie, that the first is the only one, and how one is made longer or shorter.
use Rattle.std.proofs.Common.{◌≡◌, ℕ, suc, ◌<◌, List, [], ◌∷◌, length, refl, sym, ◌∙◌, ap, subst, ◌⊎◌, inl, inr, arith}
use Rattle.std.specs.Prelude.{Option, Some}
use Rattle.std.proofs.lemmas.Option.{slice_get_within, same_Some}
use Rattle.std.proofs.lemmas.Bool.{cases_order}
use Rattle.ds_chain.specs.declared.edge.Edge.{Edge}
use Rattle.ds_chain.specs.Chain.{IsEdge, LeadsTo, IsLeastByPlaces, ComesFirst, IsShortestChain}

-- one list alone comes first
same_by_places : (xs ys : List ℕ) → length xs ≡ length ys → IsLeastByPlaces xs ys → IsLeastByPlaces ys xs → xs ≡ ys
same_by_places [] [] e p q = refl
same_by_places [] (y ∷ ys) e p q = absurd (omega arith)
same_by_places (x ∷ xs) [] e p q = absurd (omega arith)
same_by_places (x ∷ xs) (y ∷ ys) e (inl p) (inl q) = absurd (omega arith)
same_by_places (x ∷ xs) (y ∷ ys) e (inl p) (inr q) = let f : y ≡ x = q.0 in absurd (omega arith)
same_by_places (x ∷ xs) (y ∷ ys) e (inr p) (inl q) = let f : x ≡ y = p.0 in absurd (omega arith)
same_by_places (x ∷ xs) (y ∷ ys) e (inr p) (inr q) =
    let rest : xs ≡ ys = same_by_places xs ys (omega arith) p.1 q.1 in
    let head : x ≡ y = p.0 in
    cc

same_first : (xs ys : List ℕ) → ComesFirst xs ys → ComesFirst ys xs → xs ≡ ys
same_first xs ys (inl p) (inl q) = absurd (omega arith)
same_first xs ys (inl p) (inr q) = let e : length ys ≡ length xs = q.0 in absurd (omega arith)
same_first xs ys (inr p) (inl q) = let e : length xs ≡ length ys = p.0 in absurd (omega arith)
same_first xs ys (inr p) (inr q) = same_by_places xs ys p.0 p.1 q.1

module _ {K : Type 0} (edges : List (Option (Edge K))) where
  -- a place has one edge
  pub same_ends : (place : ℕ) (a b c d : K) → IsEdge edges place a b → IsEdge edges place c d → (a ≡ c) × (b ≡ d)
  same_ends place a b c d h k =
      let first : Edge K = record { by = a; to = b } in
      let second : Edge K = record { by = c; to = d } in
      let e : first ≡ second = same_Some first second (same_Some (Some first) (Some second) (sym h ∙ k)) in
      (ap (λ (x : Edge K). x.by) e, ap (λ (x : Edge K). x.to) e)

  pub hop_within : (place : ℕ) (a b : K) → IsEdge edges place a b → place < length edges
  hop_within place a b h = slice_get_within edges place _ h

  -- a chain's end is determined by its places
  pub same_end : (a b c : K) (places : List ℕ) → LeadsTo edges a places b → LeadsTo edges a places c → b ≡ c
  same_end a b c [] p q = sym p ∙ q
  same_end a b c (place ∷ places) (x, h, p) (y, k, q) =
      let e : y ≡ x = (same_ends place a y a x k h).1 in
      same_end x b c places p (subst (λ (z : K). LeadsTo edges z places c) e q)

  -- the shortest chain is the only one
  pub only_shortest : (a b : K) (places others : List ℕ) → IsShortestChain edges a places b → IsShortestChain edges a others b → places ≡ others
  only_shortest a b places others p q = same_first places others (p.first others q.leads) (q.first places p.leads)

  pub shortest_here : (a : K) → IsShortestChain edges a [] a
  shortest_here a = record { leads = refl; first = λ others _. empty_first others }
    where
      empty_first : (others : List ℕ) → ComesFirst [] others
      empty_first [] = inr (refl, tt)
      empty_first (x ∷ others) = inl (omega arith)

  -- One edge before a shortest chain makes one, where no chain is shorter, and from no edge before it stands one as short.
  pub shortest_more : (a next b : K) (place : ℕ) (places : List ℕ) → IsEdge edges place a next → IsShortestChain edges next places b
      → ((others : List ℕ) → LeadsTo edges a others b → length places < length others)
      → ((sooner : ℕ) (other : K) (others : List ℕ) → sooner < place → IsEdge edges sooner a other → LeadsTo edges other others b → length places < length others)
      → IsShortestChain edges a (place ∷ places) b
  shortest_more a next b place places h least shortest earliest = record { leads = (next, h, least.leads); first = first_of }
    where
      by_places : (other : ℕ) (others : List ℕ) (x : K) → IsEdge edges other a x → LeadsTo edges x others b → ComesFirst places others → length places ≡ length others → IsLeastByPlaces places others
      by_places other others x k q (inl p) e = absurd (omega arith)
      by_places other others x k q (inr p) e = p.1

      at_order : (other : ℕ) (others : List ℕ) (x : K) → IsEdge edges other a x → LeadsTo edges x others b → length places ≡ length others
          → (place ≡ other) ⊎ ((place < other) ⊎ (other < place)) → (place < other) ⊎ ((place ≡ other) × IsLeastByPlaces places others)
      at_order other others x k q e (inl same) =
          let f : x ≡ next = (same_ends place a x a next (subst (λ (z : ℕ). IsEdge edges z a x) (sym same) k) h).1 in
          inr (same, by_places other others x k q (least.first others (subst (λ (z : K). LeadsTo edges z others b) f q)) e)
      at_order other others x k q e (inr (inl less)) = inl less
      at_order other others x k q e (inr (inr more)) = let l : length places < length others = earliest other x others more k q in absurd (omega arith)

      at_length : (other : ℕ) (others : List ℕ) (x : K) → IsEdge edges other a x → LeadsTo edges x others b
          → (length places ≡ length others) ⊎ ((length places < length others) ⊎ (length others < length places)) → ComesFirst (place ∷ places) (other ∷ others)
      at_length other others x k q (inl e) = inr (ap suc e, at_order other others x k q e (cases_order place other))
      at_length other others x k q (inr (inl l)) = inl (omega arith)
      at_length other others x k q (inr (inr l)) =
          let m : length places < length (other ∷ others) = shortest (other ∷ others) (x, k, q) in absurd (omega arith)

      first_of : (others : List ℕ) → LeadsTo edges a others b → ComesFirst (place ∷ places) others
      first_of [] q = let m : length places < 0 = shortest [] q in absurd (omega arith)
      first_of (other ∷ others) (x, k, q) = at_length other others x k q (cases_order (length places) (length others))
