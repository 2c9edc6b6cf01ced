-- Chains over numbers are the chains over the keys that the numbers name.
use Rattle.std.proofs.Common.{◌≡◌, ℕ, ◌<◌, List, [], ◌∷◌, map, refl, sym, ◌∙◌, ap, subst}
use Rattle.std.specs.Prelude.{Option, Some, None, slice_get, option_map, IfSome}
use Rattle.std.proofs.lemmas.Option.{none-some, same_Some, slice_get-map, slice_get_within, get_or_from_slice_get}
use Rattle.ds_chain.specs.declared.edge.Edge.{Edge}
use Rattle.ds_chain.specs.Chain.{IsEdge, LeadsTo, IsShortestChain}
use Rattle.ds_chain.specs.Distance.{AreBelow}
use Rattle.ds_chain.specs.Naming.{named_hop, IsNaming}

module _ {K : Type 0} (name : ℕ → K) (count : ℕ) (naming : IsNaming count name) (edges : List (Option (Edge ℕ))) (below : AreBelow count edges) where
  ends_below : (place by to : ℕ) → IsEdge edges place by to → (by < count) × (to < count)
  ends_below place by to h =
      let edge : Edge ℕ = record { by = by; to = to } in
      let P : Option (Edge ℕ) → Type 0 = λ entry. IfSome entry (λ x. (x.by < count) × (x.to < count)) in
      subst P (get_or_from_slice_get edges place (Some edge) None h) (below place None (slice_get_within edges place (Some edge) h))

  hop_there : (place by to : ℕ) → IsEdge edges place by to → IsEdge (map (named_hop name) edges) place (name by) (name to)
  hop_there place by to h = slice_get-map (named_hop name) edges place ∙ ap (λ (x : Option (Option (Edge ℕ))). option_map (named_hop name) x) h

  hop_back : (place : ℕ) (x y : K) → IsEdge (map (named_hop name) edges) place x y → (by to : ℕ) × IsEdge edges place by to × (name by ≡ x) × (name to ≡ y)
  hop_back place x y h = go (slice_get edges place) refl (sym (slice_get-map (named_hop name) edges place) ∙ h)
    where
      go : (entry : Option (Option (Edge ℕ))) → slice_get edges place ≡ entry → option_map (named_hop name) entry ≡ Some (Some (record { by = x; to = y }))
          → (by to : ℕ) × IsEdge edges place by to × (name by ≡ x) × (name to ≡ y)
      go None e q = absurd (none-some _ q)
      go (Some None) e q = absurd (none-some _ (same_Some _ _ q))
      go (Some (Some edge)) e q =
          let first : Edge K = record { by = name edge.by; to = name edge.to } in
          let second : Edge K = record { by = x; to = y } in
          let r : first ≡ second = same_Some first second (same_Some (Some first) (Some second) q) in
          (edge.by, edge.to, e, ap (λ (z : Edge K). z.by) r, ap (λ (z : Edge K). z.to) r)

  chain_there : (by to : ℕ) (places : List ℕ) → LeadsTo edges by places to → LeadsTo (map (named_hop name) edges) (name by) places (name to)
  chain_there by to [] p = ap name p
  chain_there by to (place ∷ places) (x, h, p) = (name x, hop_there place by x h, chain_there x to places p)

  chain_back : (by to : ℕ) (places : List ℕ) → by < count → to < count → LeadsTo (map (named_hop name) edges) (name by) places (name to) → LeadsTo edges by places to
  chain_back by to [] b t p = naming by to b t p
  chain_back by to (place ∷ places) b t (x, h, p) = from (hop_back place (name by) x h) (λ next n q. chain_back next to places n t (subst (λ (z : K). LeadsTo (map (named_hop name) edges) z places (name to)) q p))
    where
      from : (a next : ℕ) × IsEdge edges place a next × (name a ≡ name by) × (name next ≡ x) → ((next : ℕ) → next < count → x ≡ name next → LeadsTo edges next places to) → LeadsTo edges by (place ∷ places) to
      from (a, next, k, e, f) rest =
          let ends : (a < count) × (next < count) = ends_below place a next k in
          (next, subst (λ (z : ℕ). IsEdge edges place z next) (naming a by ends.0 b e) k, rest next ends.1 (sym f))

  -- the shortest chain over the numbers is that over the keys
  pub named_shortest : (by to : ℕ) (places : List ℕ) → by < count → to < count → IsShortestChain edges by places to → IsShortestChain (map (named_hop name) edges) (name by) places (name to)
  named_shortest by to places b t least = record { leads = chain_there by to places least.leads; first = λ others p. least.first others (chain_back by to others b t p) }

  -- where no chain leads over the numbers, none does over the keys
  pub named_none : (by to : ℕ) → by < count → to < count → ((places : List ℕ) → LeadsTo edges by places to → ⊥) → (places : List ℕ) → LeadsTo (map (named_hop name) edges) (name by) places (name to) → ⊥
  named_none by to b t none places p = none places (chain_back by to places b t p)

  -- a chain between two keys begins at a key that has a number
  pub signer_named : (x y : K) (places : List ℕ) → (x ≡ y → ⊥) → LeadsTo (map (named_hop name) edges) x places y → (a : ℕ) × (a < count) × (name a ≡ x)
  signer_named x y [] apart p = absurd (apart p)
  signer_named x y (place ∷ places) apart (z, h, p) = let (a, b, k, e, f) = hop_back place x z h in (a, (ends_below place a b k).0, e)

  along : (y z : K) (n : ℕ) → n < count → name n ≡ z → (places : List ℕ) → LeadsTo (map (named_hop name) edges) z places y → (a : ℕ) × (a < count) × (name a ≡ y)
  along y z n l q [] p = (n, l, q ∙ p)
  along y z n l q (place ∷ places) (w, h, p) = let (a, b, k, e, f) = hop_back place z w h in along y w b (ends_below place a b k).1 f places p

  -- and it ends at one
  pub end_named : (x y : K) (places : List ℕ) → (x ≡ y → ⊥) → LeadsTo (map (named_hop name) edges) x places y → (a : ℕ) × (a < count) × (name a ≡ y)
  end_named x y [] apart p = absurd (apart p)
  end_named x y (place ∷ places) apart (z, h, p) = let (a, b, k, e, f) = hop_back place x z h in along y z b (ends_below place a b k).1 f places p
