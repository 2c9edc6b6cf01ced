-- Holding and chains: a key holds exactly where a chain leads to it, and a closed set has every key that holds.
use Rattle.std.proofs.Common.{◌≡◌, ℕ, zero, suc, ◌<◌, ◌≤◌, Bool, true, false, cond, List, [], ◌∷◌, ◌++◌, length, refl, sym, ◌∙◌, ap, subst, ◌⊎◌, inl, inr, arith, eqb, eqb-true}
use Rattle.std.specs.Prelude.{Option, Some, None, filter_map, map, option_map, slice_get, Contains, IsTrue, All}
use Rattle.std.proofs.lemmas.List.Elements.{All-from_recursion}
use Rattle.std.specs.List.{list_any, IsDistinct, AllByRecursion, cons_option}
use Rattle.std.proofs.lemmas.List.Folds.{list_any-append}
use Rattle.std.proofs.lemmas.Bool.{or_cases, or_left, or_right, or_parts, cases_Bool, false≢true}
use Rattle.std.proofs.lemmas.Option.{none-some, same_Some, slice_get-map, slice_get_within, get_or_from_slice_get}
use Rattle.std.proofs.lemmas.Map.Steps.{length-le_from_distinct_below}
use Rattle.ds_chain.specs.declared.edge.Edge.{Edge}
use Rattle.ds_chain.specs.Chain.{IsEdge, LeadsTo}
use Rattle.ds_chain.specs.Keys.{IsSameness}
use Rattle.ds_chain.specs.Holding.{is_among, added_key, round, rounds, holds}
use Rattle.ds_chain.proofs.Chains.{hop_within, same_ends}

module _ {K : Type 0} (same : K → K → Bool) where
  -- a key among two lists is among one of them
  among_append : (xs ys : List K) (key : K) → is_among same (xs ++ ys) key ≡ true → (is_among same xs key ≡ true) ⊎ (is_among same ys key ≡ true)
  among_append xs ys key e = or_cases _ _ (sym (list_any-append (same key) xs ys) ∙ e)

  among_first : (xs ys : List K) (key : K) → is_among same xs key ≡ true → is_among same (xs ++ ys) key ≡ true
  among_first xs ys key e = list_any-append (same key) xs ys ∙ or_left _ _ e

  among_second : (xs ys : List K) (key : K) → is_among same ys key ≡ true → is_among same (xs ++ ys) key ≡ true
  among_second xs ys key e = list_any-append (same key) xs ys ∙ or_right _ _ e

  -- a key stays in the set
  pub among_rounds : (n : ℕ) (edges : List (Option (Edge K))) (keys : List K) (key : K) → is_among same keys key ≡ true → is_among same (rounds n same edges keys) key ≡ true
  among_rounds zero edges keys key e = e
  among_rounds (suc n) edges keys key e = among_rounds n edges (round same edges keys) key (among_first keys _ key e)

module _ {K : Type 0} (same : K → K → Bool) (is_same : IsSameness same) where
  -- the edge by which a key was added
  by_hop : (edges : List (Option (Edge K))) (keys : List K) (key : K) → is_among same (filter_map (added_key same keys) edges) key ≡ true
      → (place : ℕ) × (by : K) × IsEdge edges place by key × (is_among same keys by ≡ true)
  by_hop [] keys key e = absurd (false≢true e)
  by_hop (None ∷ edges) keys key e = later (by_hop edges keys key e)
    where
      later : (place : ℕ) × (by : K) × IsEdge edges place by key × (is_among same keys by ≡ true) → (place : ℕ) × (by : K) × IsEdge (None ∷ edges) place by key × (is_among same keys by ≡ true)
      later (place, by, h, m) = (suc place, by, h, m)
  by_hop (Some edge ∷ edges) keys key e = at_test (is_among same keys edge.by) refl e (by_hop edges keys key)
    where
      later : (place : ℕ) × (by : K) × IsEdge edges place by key × (is_among same keys by ≡ true) → (place : ℕ) × (by : K) × IsEdge (Some edge ∷ edges) place by key × (is_among same keys by ≡ true)
      later (place, by, h, m) = (suc place, by, h, m)

      either : is_among same keys edge.by ≡ true
          → (is_among same (filter_map (added_key same keys) edges) key ≡ true → (place : ℕ) × (by : K) × IsEdge edges place by key × (is_among same keys by ≡ true))
          → (same key edge.to ≡ true) ⊎ (is_among same (filter_map (added_key same keys) edges) key ≡ true)
          → (place : ℕ) × (by : K) × IsEdge (Some edge ∷ edges) place by key × (is_among same keys by ≡ true)
      either m rest (inl q) = (0, edge.by, ap (λ (k : K). Some (Some (record { by = edge.by; to = k }))) (sym ((is_same key edge.to).0 q)), m)
      either m rest (inr q) = later (rest q)

      at_test : (b : Bool) → is_among same keys edge.by ≡ b → is_among same (cons_option (cond b (Some edge.to) None) (filter_map (added_key same keys) edges)) key ≡ true
          → (is_among same (filter_map (added_key same keys) edges) key ≡ true → (place : ℕ) × (by : K) × IsEdge edges place by key × (is_among same keys by ≡ true))
          → (place : ℕ) × (by : K) × IsEdge (Some edge ∷ edges) place by key × (is_among same keys by ≡ true)
      at_test true m q rest = either m rest (or_cases _ _ q)
      at_test false m q rest = later (rest q)

  among_cons : (o : Option K) (keys : List K) (key : K) → is_among same keys key ≡ true → is_among same (cons_option o keys) key ≡ true
  among_cons None keys key e = e
  among_cons (Some k) keys key e = or_right (same key k) _ e

  added_here : (keys rest : List K) (by to : K) → is_among same keys by ≡ true → is_among same (cons_option (added_key same keys (Some (record { by = by; to = to }))) rest) to ≡ true
  added_here keys rest by to m = rw m (or_left (same to to) _ ((is_same to to).1 refl))

  -- what a edge adds is added
  hop_adds : (edges : List (Option (Edge K))) (keys : List K) (place : ℕ) (by to : K) → IsEdge edges place by to → is_among same keys by ≡ true
      → is_among same (filter_map (added_key same keys) edges) to ≡ true
  hop_adds [] keys place by to h m = absurd (grind arith)
  hop_adds (edge ∷ edges) keys zero by to h m =
      let e : Some (record { by = by; to = to }) ≡ edge = same_Some _ _ (sym h) in
      subst (λ (x : Option (Edge K)). is_among same (cons_option (added_key same keys x) (filter_map (added_key same keys) edges)) to ≡ true) e (added_here keys (filter_map (added_key same keys) edges) by to m)
  hop_adds (edge ∷ edges) keys (suc place) by to h m = among_cons (added_key same keys edge) _ to (hop_adds edges keys place by to h m)

  module _ (edges : List (Option (Edge K))) where
    -- each key of a set after rounds is led to from a key of the set before them
    led_to : (n : ℕ) (keys : List K) (key : K) → is_among same (rounds n same edges keys) key ≡ true → (start : K) × (is_among same keys start ≡ true) × (places : List ℕ) × LeadsTo edges start places key
    led_to zero keys key e = (key, e, [], refl)
    led_to (suc n) keys key e = before (led_to n (round same edges keys) key e)
      where
        cases : (start : K) (places : List ℕ) → LeadsTo edges start places key → (is_among same keys start ≡ true) ⊎ (is_among same (filter_map (added_key same keys) edges) start ≡ true)
            → (start : K) × (is_among same keys start ≡ true) × (places : List ℕ) × LeadsTo edges start places key
        cases start places p (inl m) = (start, m, places, p)
        cases start places p (inr m) = let (place, by, h, k) = by_hop edges keys start m in (by, k, place ∷ places, (start, h, p))

        before : (start : K) × (is_among same (round same edges keys) start ≡ true) × (places : List ℕ) × LeadsTo edges start places key
            → (start : K) × (is_among same keys start ≡ true) × (places : List ℕ) × LeadsTo edges start places key
        before (start, m, places, p) = cases start places p (among_append same keys _ start m)

    -- what as many edges as rounds lead to is in the set after them
    reached : (n : ℕ) (keys : List K) (start key : K) (places : List ℕ) → is_among same keys start ≡ true → LeadsTo edges start places key → length places ≤ n → is_among same (rounds n same edges keys) key ≡ true
    reached n keys start key [] m p l = subst (λ (k : K). is_among same (rounds n same edges keys) k ≡ true) p (among_rounds same n edges keys start m)
    reached zero keys start key (place ∷ places) m p l = absurd (omega arith)
    reached (suc n) keys start key (place ∷ places) m (x, h, p) l =
        reached n (round same edges keys) x key places (among_second same keys _ x (hop_adds edges keys place start x h m)) p (omega arith)

-- no two places are equal
abbrev Apart : List ℕ → Type 0
Apart [] = Unit {0}
Apart (x ∷ xs) = (list_any (eqb x) xs ≡ false) × Apart xs

distinct_from_apart : (xs : List ℕ) → Apart xs → IsDistinct eqb xs
unfolding IsDistinct
distinct_from_apart [] a = tt
distinct_from_apart (x ∷ xs) a = (none xs a.0, distinct_from_apart xs a.1)
  where
    none : (ys : List ℕ) → list_any (eqb x) ys ≡ false → AllByRecursion (λ y. eqb x y ≡ false) ys
    none [] e = tt
    none (y ∷ ys) e = let p : (eqb x y ≡ false) × (list_any (eqb x) ys ≡ false) = or_parts _ _ e in (p.0, none ys p.1)

module _ {K : Type 0} (edges : List (Option (Edge K))) (key : K) where
  pub chain_within : (start : K) (places : List ℕ) → LeadsTo edges start places key → (q : ℕ) → list_any (eqb q) places ≡ true → q < length edges
  chain_within start [] p q e = absurd (false≢true e)
  chain_within start (place ∷ places) (x, h, p) q e = either (or_cases (eqb q place) (list_any (eqb q) places) e) (chain_within x places p q)
    where
      either : (eqb q place ≡ true) ⊎ (list_any (eqb q) places ≡ true) → (list_any (eqb q) places ≡ true → q < length edges) → q < length edges
      either (inl m) rest = let w : place < length edges = hop_within edges place start x h in let f : q ≡ place = eqb-true q place m in omega arith
      either (inr m) rest = rest m

  -- what of a chain begins at a place of it
  cut : (place : ℕ) (start : K) (places : List ℕ) → list_any (eqb place) places ≡ true → Apart places → LeadsTo edges start places key
      → (others : List ℕ) × (by : K) × Apart (place ∷ others) × LeadsTo edges by (place ∷ others) key
  cut place start [] e a p = absurd (false≢true e)
  cut place start (first ∷ places) e a (x, h, p) = either (or_cases (eqb place first) (list_any (eqb place) places) e) (λ m. cut place x places m a.1 p)
    where
      either : (eqb place first ≡ true) ⊎ (list_any (eqb place) places ≡ true) → (list_any (eqb place) places ≡ true → (others : List ℕ) × (by : K) × Apart (place ∷ others) × LeadsTo edges by (place ∷ others) key)
          → (others : List ℕ) × (by : K) × Apart (place ∷ others) × LeadsTo edges by (place ∷ others) key
      either (inl m) rest =
          let f : first ≡ place = sym (eqb-true place first m) in
          (places, start, subst (λ (n : ℕ). Apart (n ∷ places)) f a, subst (λ (n : ℕ). LeadsTo edges start (n ∷ places) key) f (x, h, p))
      either (inr m) rest = rest m

  -- a chain without its rounds
  apart : (start : K) (places : List ℕ) → LeadsTo edges start places key → (others : List ℕ) × Apart others × LeadsTo edges start others key
  apart start [] p = ([], tt, p)
  apart start (place ∷ places) (x, h, p) = from (apart x places p)
    where
      at_cut : (others : List ℕ) × (by : K) × Apart (place ∷ others) × LeadsTo edges by (place ∷ others) key → (others : List ℕ) × Apart others × LeadsTo edges start others key
      at_cut (others, by, a, (y, k, q)) =
          (place ∷ others, a, (x, h, subst (λ (z : K). LeadsTo edges z others key) (same_ends edges place by y start x k h).1 q))

      either : (others : List ℕ) → Apart others → LeadsTo edges x others key → (list_any (eqb place) others ≡ true) ⊎ (list_any (eqb place) others ≡ false) → (others : List ℕ) × Apart others × LeadsTo edges start others key
      either others a q (inl m) = at_cut (cut place x others m a q)
      either others a q (inr m) = (place ∷ others, (m, a), (x, h, q))

      from : (others : List ℕ) × Apart others × LeadsTo edges x others key → (others : List ℕ) × Apart others × LeadsTo edges start others key
      from (others, a, q) = either others a q (cases_Bool (list_any (eqb place) others))

  -- where a chain leads, one no longer than the list does
  pub short : (start : K) (places : List ℕ) → LeadsTo edges start places key → (others : List ℕ) × (length others ≤ length edges) × LeadsTo edges start others key
  short start places p = let (others, a, q) = apart start places p in
      (others, length-le_from_distinct_below others (length edges) (distinct_from_apart others a) (chain_within start others q), q)

module _ {K : Type 0} (same : K → K → Bool) (is_same : IsSameness same) (edges : List (Option (Edge K))) (creator key : K) where
  -- where a chain leads to a key, the key holds
  pub holds_by_chain : (places : List ℕ) → LeadsTo edges creator places key → IsTrue (holds same edges creator key)
  unfolding holds
  holds_by_chain places p = let (others, l, q) = short edges key creator places p in
      reached same is_same edges (length edges) (creator ∷ []) creator key others (or_left (same creator creator) false ((is_same creator creator).1 refl)) q l

  -- to a key that holds, a chain leads
  pub chain_of_holder : IsTrue (holds same edges creator key) → (places : List ℕ) × LeadsTo edges creator places key
  unfolding holds
  chain_of_holder e = from (led_to same is_same edges (length edges) (creator ∷ []) key e)
    where
      first : (start : K) → (same start creator ≡ true) ⊎ (false ≡ true) → start ≡ creator
      first start (inl q) = (is_same start creator).0 q
      first start (inr q) = absurd (false≢true q)

      from : (start : K) × (is_among same (creator ∷ []) start ≡ true) × (places : List ℕ) × LeadsTo edges start places key → (places : List ℕ) × LeadsTo edges creator places key
      from (start, m, places, p) = (places, subst (λ (z : K). LeadsTo edges z places key) (first start (or_cases (same start creator) false m)) p)

-- A chain's places are places of the list.
pub places_within : {K : Type 0} (edges : List (Option (Edge K))) (creator key : K) (places : List ℕ) → LeadsTo edges creator places key → All (λ place. place < length edges) places
places_within {K} edges creator key places p = All-from_recursion (λ place. place < length edges) places (each creator places p)
  where
    each : (by : K) (places : List ℕ) → LeadsTo edges by places key → AllByRecursion (λ place. place < length edges) places
    each by [] p = tt
    each by (place ∷ places) (x, h, p) = (hop_within edges place by x h, each x places p)

-- A set that has the creator's key, and with the signer of each certificate that counts also the key that it names, has each key that holds.
pub closed_set_has_holders : {K : Type 0} (same : K → K → Bool) (is_same : IsSameness same) (edges : List (Option (Edge K))) (creator : K) (Within : K → Type 0) → Within creator
    → ((place : ℕ) (by to : K) → IsEdge edges place by to → Within by → Within to) → (key : K) → IsTrue (holds same edges creator key) → Within key
closed_set_has_holders {K} same is_same edges creator Within start closed key e = let (places, p) = chain_of_holder same is_same edges creator key e in along creator places start p
  where
    along : (by : K) (places : List ℕ) → Within by → LeadsTo edges by places key → Within key
    along by [] w p = subst Within p w
    along by (place ∷ places) w (x, h, p) = along x places (closed place by x h w) p

-- The same for a list of certificates of any kind, each seen as its edge where it counts.
pub closed_list_has_holders : {C K : Type 0} (same : K → K → Bool) (is_same : IsSameness same) (hop_of : C → Option (Edge K)) (certs : List C) (creator : K) (Within : K → Type 0) → Within creator
    → ((cert : C) → Contains certs cert → (edge : Edge K) → hop_of cert ≡ Some edge → Within edge.by → Within edge.to)
    → (key : K) → IsTrue (holds same (map hop_of certs) creator key) → Within key
closed_list_has_holders {C} {K} same is_same hop_of certs creator Within start closed key e =
    closed_set_has_holders same is_same (map hop_of certs) creator Within start
    (λ place by to h w. at_entry place by to w (slice_get certs place) refl (sym (slice_get-map hop_of certs place) ∙ h)) key e
  where
    at_entry : (place : ℕ) (by to : K) → Within by → (entry : Option C) → slice_get certs place ≡ entry → option_map hop_of entry ≡ Some (Some (record { by = by; to = to })) → Within to
    at_entry place by to w None q r = absurd (none-some _ r)
    at_entry place by to w (Some cert) q r =
        closed cert (place, slice_get_within certs place cert q, get_or_from_slice_get certs place cert cert q) (record { by = by; to = to }) (same_Some _ _ r) w

place_kept : {X : Type 0} (xs ys : List X) (place : ℕ) (x : X) → slice_get xs place ≡ Some x → slice_get (xs ++ ys) place ≡ Some x
place_kept [] ys place x e = absurd (none-some _ e)
place_kept (z ∷ xs) ys zero x e = e
place_kept (z ∷ xs) ys (suc place) x e = place_kept xs ys place x e

-- more certificates leave each chain a chain
pub chain_kept : {K : Type 0} (edges more : List (Option (Edge K))) (creator key : K) (places : List ℕ) → LeadsTo edges creator places key → LeadsTo (edges ++ more) creator places key
chain_kept edges more creator key [] p = p
chain_kept edges more creator key (place ∷ places) (x, h, p) = (x, place_kept edges more place _ h, chain_kept edges more x key places p)

-- and each holder a holder
pub holder_kept : {K : Type 0} (same : K → K → Bool) (is_same : IsSameness same) (edges more : List (Option (Edge K))) (creator key : K) → IsTrue (holds same edges creator key) → IsTrue (holds same (edges ++ more) creator key)
holder_kept same is_same edges more creator key e = let (places, p) = chain_of_holder same is_same edges creator key e in
    holds_by_chain same is_same (edges ++ more) creator key places (chain_kept edges more creator key places p)
