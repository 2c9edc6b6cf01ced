-- One level of the search, entry by entry, and the levels together.
use Rattle.std.proofs.Common.{◌≡◌, ℕ, zero, suc, ◌+◌, ◌<◌, ◌≤◌, List, [], ◌∷◌, length, refl, sym, ◌∙◌, ap, subst, ◌⊎◌, inl, inr, arith, get_or-set_same, get_or-set_other}
use Rattle.std.proofs.lemmas.List.{length-replicate}
use Rattle.std.specs.Prelude.{Option, Some, None, slice_get, slice_index_or, set, replicate}
use Rattle.std.proofs.lemmas.Bool.{cases_order, cases_eq}
use Rattle.std.proofs.lemmas.Option.{none-some, same_Some}
use Rattle.ds_chain.specs.declared.edge.Edge.{Edge}
use Rattle.ds_chain.specs.Chain.{IsEdge, LeadsTo}
use Rattle.ds_chain.specs.Distance.{IsFarther, IsDistance, IsKnown, AreKnown, IsSettled, AreSettled, IsNew}
use Rattle.ds_chain.proofs.Chains.{hop_within, same_ends}
use Rattle.ds_chain.proofs.Holdings.{short}

-- What is known in the middle of a level: of the chains with one edge more, those that begin before the place.
abbrev pub IsPartly : List (Option (Edge ℕ)) → ℕ → ℕ → ℕ → ℕ → Option ℕ → Type 0
IsPartly edges key level end by None = IsFarther edges level by key × ((place next : ℕ) → place < end → IsEdge edges place by next → IsFarther edges level next key)
IsPartly edges key level end by (Some n) = (n ≤ level + 1) × IsDistance edges by key n

abbrev pub ArePartly : List (Option (Edge ℕ)) → ℕ → ℕ → ℕ → List (Option ℕ) → Type 0
ArePartly edges key level end distances = (by : ℕ) → IsPartly edges key level end by (slice_index_or distances by None)

module _ (edges : List (Option (Edge ℕ))) (key level : ℕ) where
  pub partly_first : (distances : List (Option ℕ)) → AreKnown edges key level distances → ArePartly edges key level 0 distances
  partly_first distances known by = go (slice_index_or distances by None) (known by)
    where
      go : (o : Option ℕ) → IsKnown edges key level by o → IsPartly edges key level 0 by o
      go None f = (f, λ place next l h. absurd (omega arith))
      go (Some n) (l, d) = (omega arith, d)

  one_more : (end by : ℕ) → ((place next : ℕ) → place < end → IsEdge edges place by next → IsFarther edges level next key)
      → ((next : ℕ) → IsEdge edges end by next → IsFarther edges level next key)
      → (place next : ℕ) → place < end + 1 → IsEdge edges place by next → IsFarther edges level next key
  one_more end by before here place next l h = at_order (cases_order place end)
    where
      at_order : (place ≡ end) ⊎ ((place < end) ⊎ (end < place)) → IsFarther edges level next key
      at_order (inl e) = here next (subst (λ (p : ℕ). IsEdge edges p by next) e h)
      at_order (inr (inl s)) = before place next s h
      at_order (inr (inr s)) = absurd (omega arith)

  pub partly_skip : (end : ℕ) (distances : List (Option ℕ)) → slice_get edges end ≡ Some None → ArePartly edges key level end distances → ArePartly edges key level (end + 1) distances
  partly_skip end distances e known by = go (slice_index_or distances by None) (known by)
    where
      go : (o : Option ℕ) → IsPartly edges key level end by o → IsPartly edges key level (end + 1) by o
      go None (f, before) = (f, one_more end by before (λ next h. absurd (none-some _ (same_Some _ _ (sym e ∙ h)))))
      go (Some n) p = p

  module _ (end : ℕ) (edge : Edge ℕ) (here : slice_get edges end ≡ Some (Some edge)) (distances : List (Option ℕ)) (known : ArePartly edges key level end distances) where
    pub partly_old : (IsNew distances edge level → ⊥) → ArePartly edges key level (end + 1) distances
    partly_old old by = go (slice_index_or distances by None) refl (known by)
      where
        at_order : (next n : ℕ) → IsFarther edges level by key → IsEdge edges end by next → IsDistance edges next key n → (n ≡ level → ⊥)
            → (n ≡ level) ⊎ ((n < level) ⊎ (level < n)) → IsFarther edges level next key
        at_order next n f h d other (inl e) = absurd (other e)
        at_order next n f h d other (inr (inl s)) =
            let (places, p, l) = d.reached in
            let m : level < suc (length places) = f (end ∷ places) (next, h, p) in
            absurd (omega arith)
        at_order next n f h d other (inr (inr s)) = λ others p. let m : n ≤ length others = d.least others p in omega arith

        beyond : (next : ℕ) → slice_index_or distances by None ≡ None → IsFarther edges level by key → IsEdge edges end by next
            → (o : Option ℕ) → slice_index_or distances next None ≡ o → IsPartly edges key level end next o → IsFarther edges level next key
        beyond next q f h None r p = p.0
        beyond next q f h (Some n) r (l, d) =
            let (b, t) = same_ends edges end edge.by edge.to by next here h in
            at_order next n f h d
            (λ e. old (record {
              to = ap (λ (k : ℕ). slice_index_or distances k None) t ∙ r ∙ ap (λ (k : ℕ). Some k) e;
              by = ap (λ (k : ℕ). slice_index_or distances k None) b ∙ q;
            }))
            (cases_order n level)

        go : (o : Option ℕ) → slice_index_or distances by None ≡ o → IsPartly edges key level end by o → IsPartly edges key level (end + 1) by o
        go None q (f, before) = (f, one_more end by before (λ next h. beyond next q f h (slice_index_or distances next None) refl (known next)))
        go (Some n) q p = p

    pub partly_new : edge.by < length distances → IsNew distances edge level → ArePartly edges key level (end + 1) (set distances edge.by (Some (level + 1)))
    partly_new within new by = at_key (cases_eq by edge.by)
      where
        other : (by ≡ edge.by → ⊥) → (o : Option ℕ) → IsPartly edges key level end by o → IsPartly edges key level (end + 1) by o
        other ne None (f, before) = (f, one_more end by before (λ next h. absurd (ne (sym (same_ends edges end edge.by edge.to by next here h).0))))
        other ne (Some n) p = p

        distance : IsPartly edges key level end edge.to (Some level) → IsPartly edges key level end edge.by None → IsDistance edges edge.by key (level + 1)
        distance (l, d) (f, before) = record {
          reached = let (places, p, e) = d.reached in (end ∷ places, (edge.to, here, p), omega arith);
          least = λ others p. let m : level < length others = f others p in omega arith;
        }

        at_key : (by ≡ edge.by) ⊎ (by ≡ edge.by → ⊥) → IsPartly edges key level (end + 1) by (slice_index_or (set distances edge.by (Some (level + 1))) by None)
        at_key (inl e) =
            subst (λ (k : ℕ). IsPartly edges key level (end + 1) k (slice_index_or (set distances edge.by (Some (level + 1))) k None)) (sym e)
            (subst (λ (o : Option ℕ). IsPartly edges key level (end + 1) edge.by o) (sym (get_or-set_same distances edge.by (Some (level + 1)) None within))
            (omega arith, distance (subst (λ (o : Option ℕ). IsPartly edges key level end edge.to o) new.to (known edge.to)) (subst (λ (o : Option ℕ). IsPartly edges key level end edge.by o) new.by (known edge.by))))
        at_key (inr ne) =
            subst (λ (o : Option ℕ). IsPartly edges key level (end + 1) by o) (sym (get_or-set_other distances edge.by by (Some (level + 1)) None ne))
            (other ne (slice_index_or distances by None) (known by))

  pub partly_all : (end : ℕ) (distances : List (Option ℕ)) → length edges ≤ end → ArePartly edges key level end distances → AreKnown edges key (level + 1) distances
  partly_all end distances all known by = go (slice_index_or distances by None) (known by)
    where
      go : (o : Option ℕ) → IsPartly edges key level end by o → IsKnown edges key (level + 1) by o
      go None (f, before) = far
        where
          far : IsFarther edges (level + 1) by key
          far [] p = let m : level < 0 = f [] p in absurd (omega arith)
          far (place ∷ places) (x, h, p) =
              let w : place < length edges = hop_within edges place by x h in
              let m : level < length places = before place x (omega arith) h places p in omega arith
      go (Some n) p = p

  -- a level that adds nothing is the last
  pub settled_still : (distances : List (Option ℕ)) → AreKnown edges key level distances → AreKnown edges key (level + 1) distances → AreSettled edges key distances
  settled_still distances known more by = go (slice_index_or distances by None) refl
    where
      at_next : (by next place : ℕ) (places : List ℕ) → IsEdge edges place by next → slice_index_or distances by None ≡ None → LeadsTo edges next places key
          → (slice_index_or distances next None ≡ None → ⊥) → (o : Option ℕ) → slice_index_or distances next None ≡ o → IsKnown edges key level next o → ⊥
      at_next by next place places h q p rest None r k = rest r
      at_next by next place places h q p rest (Some n) r (l, d) =
          let (shorter, s, e) = d.reached in
          let f : IsFarther edges (level + 1) by key = subst (λ (o : Option ℕ). IsKnown edges key (level + 1) by o) q (more by) in
          let m : level + 1 < suc (length shorter) = f (place ∷ shorter) (next, h, s) in
          omega arith

      no_chain : (by : ℕ) (places : List ℕ) → slice_index_or distances by None ≡ None → LeadsTo edges by places key → ⊥
      no_chain by [] q p =
          let f : IsFarther edges level by key = subst (λ (o : Option ℕ). IsKnown edges key level by o) q (known by) in
          let m : level < 0 = f [] p in omega arith
      no_chain by (place ∷ places) q (x, h, p) = at_next by x place places h q p (λ r. no_chain x places r p) (slice_index_or distances x None) refl (known x)

      go : (o : Option ℕ) → slice_index_or distances by None ≡ o → IsSettled edges key by o
      go None q = λ places p. no_chain by places q p
      go (Some n) q = (subst (λ (o : Option ℕ). IsKnown edges key level by o) q (known by)).1

  -- after as many levels as edges all is known
  pub settled_all : (distances : List (Option ℕ)) → length edges ≤ level → AreKnown edges key level distances → AreSettled edges key distances
  settled_all distances all known by = go (slice_index_or distances by None) (known by)
    where
      go : (o : Option ℕ) → IsKnown edges key level by o → IsSettled edges key by o
      go None f = λ places p. let (others, l, q) = short edges key by places p in let m : level < length others = f others q in omega arith
      go (Some n) p = p.1

unknown : (n k : ℕ) → ◌≡◌ {A = Option ℕ} (slice_index_or (replicate n None) k None) None
unknown zero k = refl
unknown (suc n) zero = refl
unknown (suc n) (suc k) = unknown n k

-- At first only the key itself is known.
pub known_first : (edges : List (Option (Edge ℕ))) (count key : ℕ) → key < count → AreKnown edges key 0 (set (replicate count None) key (Some 0))
known_first edges count key within by = at_key (cases_eq by key)
  where
    farther : (by ≡ key → ⊥) → IsFarther edges 0 by key
    farther ne [] p = absurd (ne p)
    farther ne (place ∷ places) p = omega arith

    at_key : (by ≡ key) ⊎ (by ≡ key → ⊥) → IsKnown edges key 0 by (slice_index_or (set (replicate count None) key (Some 0)) by None)
    at_key (inl e) =
        subst (λ (k : ℕ). IsKnown edges key 0 k (slice_index_or (set (replicate count None) key (Some 0)) k None)) (sym e)
        (subst (λ (o : Option ℕ). IsKnown edges key 0 key o) (sym (get_or-set_same (replicate count None) key (Some 0) None (rw length-replicate within)))
        (omega arith, record { reached = ([], refl, refl); least = λ others p. omega arith }))
    at_key (inr ne) =
        subst (λ (o : Option ℕ). IsKnown edges key 0 by o) (sym (get_or-set_other (replicate count None) key by (Some 0) None ne ∙ unknown count by)) (farther ne)
