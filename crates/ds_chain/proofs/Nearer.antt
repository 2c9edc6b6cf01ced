-- A walk along the distances: the first edge to a nearer key begins the shortest chain.
use Rattle.std.proofs.Common.{◌≡◌, ℕ, suc, ◌<◌, ◌≤◌, List, [], ◌∷◌, length, refl, ◌∙◌, ap, subst, ◌⊎◌, inl, inr, arith}
use Rattle.std.specs.Prelude.{Option, Some, None, slice_index_or}
use Rattle.std.proofs.lemmas.Bool.{cases_order}
use Rattle.ds_chain.specs.declared.edge.Edge.{Edge}
use Rattle.ds_chain.specs.Chain.{IsEdge, LeadsTo, ComesFirst, IsShortestChain}
use Rattle.ds_chain.specs.Distance.{IsDistance, IsSettled, AreSettled, IsFirstNearer}
use Rattle.ds_chain.proofs.Chains.{shortest_here, shortest_more}

module _ (edges : List (Option (Edge ℕ))) (key : ℕ) (distances : List (Option ℕ)) (settled : AreSettled edges key distances) where
  distance_at : (by n : ℕ) → slice_index_or distances by None ≡ Some n → IsDistance edges by key n
  distance_at by n e = subst (λ (o : Option ℕ). IsSettled edges key by o) e (settled by)

  -- what a chain leads from has a distance, no longer than the chain
  has_distance : (by : ℕ) (places : List ℕ) → LeadsTo edges by places key → (n : ℕ) × (slice_index_or distances by None ≡ Some n) × (n ≤ length places)
  has_distance by places p = go (slice_index_or distances by None) refl (settled by)
    where
      go : (o : Option ℕ) → slice_index_or distances by None ≡ o → IsSettled edges key by o → (n : ℕ) × (slice_index_or distances by None ≡ Some n) × (n ≤ length places)
      go None e none = absurd (none places p)
      go (Some n) e d = (n, e, d.least places p)

  -- a edge comes no nearer than by one
  no_nearer : (by next place n m : ℕ) → IsEdge edges place by next → slice_index_or distances by None ≡ Some n → slice_index_or distances next None ≡ Some m → n ≤ suc m
  no_nearer by next place n m h d e =
      let (places, p, l) = (distance_at next m e).reached in
      let f : n ≤ suc (length places) = (distance_at by n d).least (place ∷ places) (next, h, p) in
      omega arith

  -- where a key is left, a edge leads to a nearer one
  pub some_nearer : (by left : ℕ) → slice_index_or distances by None ≡ Some (suc left)
      → ((place next : ℕ) → IsEdge edges place by next → slice_index_or distances next None ≡ Some left → ⊥) → ⊥
  some_nearer by left d none = from (distance_at by (suc left) d).reached
    where
      at_next : (place next : ℕ) (places : List ℕ) → IsEdge edges place by next → length (place ∷ places) ≡ suc left → (n : ℕ) × (slice_index_or distances next None ≡ Some n) × (n ≤ length places) → ⊥
      at_next place next places h l (n, e, b) =
          let f : suc left ≤ suc n = no_nearer by next place (suc left) n h d e in
          let same : n ≡ left = omega arith in
          none place next h (e ∙ ap (λ (k : ℕ). Some k) same)

      from : (places : List ℕ) × LeadsTo edges by places key × (length places ≡ suc left) → ⊥
      from ([], p, l) = omega arith
      from (place ∷ places, (x, h, p), l) = at_next place x places h l (has_distance x places p)

  pub nearer_shortest : (by left place next : ℕ) → slice_index_or distances by None ≡ Some (suc left) → IsFirstNearer edges distances by left place next
      → (tail : List ℕ) → IsShortestChain edges next tail key → IsShortestChain edges by (place ∷ tail) key
  nearer_shortest by left place next d first tail least =
      shortest_more edges by next key place tail first.edge least
      (λ others p. let f : suc left ≤ length others = (distance_at by (suc left) d).least others p in let l : length tail ≤ left = as_short in omega arith)
      (λ sooner other others s h p. let l : length tail ≤ left = as_short in farther sooner other others s h (has_distance other others p) l)
    where
      shorter : (places : List ℕ) → length places ≡ left → ComesFirst tail places → length tail ≤ left
      shorter places l (inl s) = omega arith
      shorter places l (inr s) = let e : length tail ≡ length places = s.0 in omega arith

      as_short : length tail ≤ left
      as_short = let (places, p, l) = (distance_at next left first.left_over).reached in shorter places l (least.first places p)

      farther : (sooner other : ℕ) (others : List ℕ) → sooner < place → IsEdge edges sooner by other → (n : ℕ) × (slice_index_or distances other None ≡ Some n) × (n ≤ length others)
          → length tail ≤ left → length tail < length others
      farther sooner other others s h (n, e, b) l = at_order (cases_order n left)
        where
          at_order : (n ≡ left) ⊎ ((n < left) ⊎ (left < n)) → length tail < length others
          at_order (inl same) = absurd (first.first sooner other s h (e ∙ ap (λ (k : ℕ). Some k) same))
          at_order (inr (inl less)) = let f : suc left ≤ suc n = no_nearer by other sooner (suc left) n h d e in absurd (omega arith)
          at_order (inr (inr more)) = omega arith

  pub end_shortest : (by : ℕ) → slice_index_or distances by None ≡ Some 0 → IsShortestChain edges by [] key
  end_shortest by d = from (distance_at by 0 d).reached
    where
      from : (places : List ℕ) × LeadsTo edges by places key × (length places ≡ 0) → IsShortestChain edges by [] key
      from ([], p, l) = subst (λ (k : ℕ). IsShortestChain edges by [] k) p (shortest_here edges by)
      from (place ∷ places, p, l) = absurd (omega arith)
