-- Who holds a category doesn't depend on doubles among delegations.
use Rattle.std.proofs.Common.{◌≡◌, ℕ, zero, suc, ◌<◌, Bool, true, false, cond, List, [], ◌∷◌, ◌++◌, length, get_or, refl, sym, ◌∙◌, ap, subst, ◌⊎◌, inl, inr, arith, eqb-true}
use Rattle.std.specs.Prelude.{Option, Some, option_map, slice_get, Contains, ◌&&◌}
use Rattle.std.proofs.lemmas.Bool.{or_cases, false≢true}
use Rattle.std.proofs.lemmas.Option.{slice_get-get_or, slice_get-map}
use Rattle.std.proofs.lemmas.Slice.Eq.{bytes_eq-Decides}
use Rattle.ds_label.specs.declared.category.PubKey.{PubKey}
use Rattle.ds_label.specs.declared.category.Category.{Category}
use Rattle.ds_label.specs.Names.{by_name}
use Rattle.ds_label.proofs.Members.{same-is}
use Rattle.ds_label.proofs.Namings.{names}
use Rattle.ds_cert.specs.declared.delegation.Delegation.{Delegation}
use Rattle.ds_cert.specs.NoDoubles.{same_delegation, is_kept, with_delegation}
use Rattle.ds_chain.specs.declared.edge.Edge.{Edge}
use Rattle.ds_chain.specs.Chain.{IsEdge, LeadsTo}
use Rattle.ds_chain.specs.Delegated.{hop_of, hops_of_list, key_holds}
use Rattle.ds_chain.specs.Keys.{same_key}
use Rattle.ds_chain.proofs.Holdings.{closed_list_has_holders, chain_of_holder, holds_by_chain}
use Rattle.ds_chain.proofs.Numbered.{same_key_is}
use Rattle.ds_flow.specs.Asked.{kept_all}

-- what a list has

in_none : {X : Type 0} (y : X) → Contains [] y → ⊥
in_none y c = let lt : c.0 < 0 = c.1 in omega arith

in_head : {X : Type 0} (x : X) (xs : List X) → Contains (x ∷ xs) x
in_head x xs = (zero, omega arith, refl)

in_tail : {X : Type 0} (x : X) (xs : List X) (y : X) → Contains xs y → Contains (x ∷ xs) y
in_tail x xs y c = (suc c.0, omega (arith, c.1), c.2)

in_cases : {X : Type 0} (x : X) (xs : List X) (y : X) → Contains (x ∷ xs) y → (x ≡ y) ⊎ Contains xs y
in_cases x xs y c = by_place c.0 c.1 c.2
  where
    by_place : (k : ℕ) → k < suc (length xs) → get_or (x ∷ xs) k y ≡ y → (x ≡ y) ⊎ Contains xs y
    by_place zero lt is = inl is
    by_place (suc k) lt is = inr (k, omega arith, is)

in_first : {X : Type 0} (xs ys : List X) (y : X) → Contains xs y → Contains (xs ++ ys) y
in_first [] ys y c = absurd (in_none y c)
in_first (x ∷ xs) ys y c = go (in_first xs ys y) (in_cases x xs y c)
  where
    go : (Contains xs y → Contains (xs ++ ys) y) → (x ≡ y) ⊎ Contains xs y → Contains (x ∷ xs ++ ys) y
    go more (inl e) = subst (λ z. Contains (x ∷ xs ++ ys) z) e (in_head x (xs ++ ys))
    go more (inr t) = in_tail x (xs ++ ys) y (more t)

in_second : {X : Type 0} (xs ys : List X) (y : X) → Contains ys y → Contains (xs ++ ys) y
in_second [] ys y c = c
in_second (x ∷ xs) ys y c = in_tail x (xs ++ ys) y (in_second xs ys y c)

in_either : {X : Type 0} (xs ys : List X) (y : X) → Contains (xs ++ ys) y → Contains xs y ⊎ Contains ys y
in_either [] ys y c = inr c
in_either (x ∷ xs) ys y c = go (in_either xs ys y) (in_cases x (xs ++ ys) y c)
  where
    later : Contains xs y ⊎ Contains ys y → Contains (x ∷ xs) y ⊎ Contains ys y
    later (inl t) = inl (in_tail x xs y t)
    later (inr t) = inr t

    go : (Contains (xs ++ ys) y → Contains xs y ⊎ Contains ys y) → (x ≡ y) ⊎ Contains (xs ++ ys) y → Contains (x ∷ xs) y ⊎ Contains ys y
    go more (inl e) = inl (subst (λ z. Contains (x ∷ xs) z) e (in_head x xs))
    go more (inr t) = later (more t)

-- what is kept is there

and_left : (a b : Bool) → (a && b) ≡ true → a ≡ true
and_left true b e = refl
and_left false b e = e

and_right : (a b : Bool) → (a && b) ≡ true → b ≡ true
and_right true b e = e
and_right false b e = absurd (false≢true e)

same_is : (a b : Delegation) → same_delegation a b ≡ true → a ≡ b
same_is a b e =
    let c : a.category ≡ b.category = (same-is by_name names a.category b.category).0 (and_left _ _ e) in
    let e1 = and_right _ _ e in
    let to : a.to.0 ≡ b.to.0 = (bytes_eq-Decides a.to.0 b.to.0).0 (and_left _ _ e1) in
    let e2 = and_right _ _ e1 in
    let from : a.from ≡ b.from = eqb-true a.from b.from (and_left _ _ e2) in
    let e3 = and_right _ _ e2 in
    let until : a.until ≡ b.until = eqb-true a.until b.until (and_left _ _ e3) in
    let e4 = and_right _ _ e3 in
    let by : a.by.0 ≡ b.by.0 = (bytes_eq-Decides a.by.0 b.by.0).0 (and_left _ _ e4) in
    let signature : a.signature ≡ b.signature = (bytes_eq-Decides a.signature b.signature).0 (and_right _ _ e4) in
    λ i. record { category = c i; to = record { 0 = to i }; from = from i; until = until i; by = record { 0 = by i }; signature = signature i }

kept_is : (d : Delegation) (kept : List Delegation) → is_kept d kept ≡ true → Contains kept d
kept_is d [] e = absurd (false≢true e)
kept_is d (x ∷ kept) e = go (kept_is d kept) (or_cases _ _ e)
  where
    go : (is_kept d kept ≡ true → Contains kept d) → (same_delegation d x ≡ true) ⊎ (is_kept d kept ≡ true) → Contains (x ∷ kept) d
    go more (inl q) = subst (λ z. Contains (x ∷ kept) z) (sym (same_is d x q)) (in_head x kept)
    go more (inr q) = in_tail x kept d (more q)

more_here : (d : Delegation) (kept : List Delegation) → Contains (with_delegation d kept) d
more_here d kept = go (is_kept d kept) refl
  where
    go : (b : Bool) → is_kept d kept ≡ b → Contains (cond b kept (kept ++ d ∷ [])) d
    go true e = kept_is d kept e
    go false e = in_second kept (d ∷ []) d (in_head d [])

more_before : (d : Delegation) (kept : List Delegation) (y : Delegation) → Contains kept y → Contains (with_delegation d kept) y
more_before d kept y c = go (is_kept d kept)
  where
    go : (b : Bool) → Contains (cond b kept (kept ++ d ∷ [])) y
    go true = c
    go false = in_first kept (d ∷ []) y c

more_cases : (d : Delegation) (kept : List Delegation) (y : Delegation) → Contains (with_delegation d kept) y → Contains kept y ⊎ (d ≡ y)
more_cases d kept y = go (is_kept d kept)
  where
    last : Contains kept y ⊎ Contains (d ∷ []) y → Contains kept y ⊎ (d ≡ y)
    last (inl c) = inl c
    last (inr c) = only (in_cases d [] y c)
      where
        only : (d ≡ y) ⊎ Contains [] y → Contains kept y ⊎ (d ≡ y)
        only (inl e) = inr e
        only (inr n) = absurd (in_none y n)

    go : (b : Bool) → Contains (cond b kept (kept ++ d ∷ [])) y → Contains kept y ⊎ (d ≡ y)
    go true c = inl c
    go false c = last (in_either kept (d ∷ []) y c)

all_before : (kept xs : List Delegation) (y : Delegation) → Contains kept y → Contains (kept_all kept xs) y
all_before kept [] y c = c
all_before kept (d ∷ xs) y c = all_before (with_delegation d kept) xs y (more_before d kept y c)

all_here : (kept xs : List Delegation) (y : Delegation) → Contains xs y → Contains (kept_all kept xs) y
all_here kept [] y c = absurd (in_none y c)
all_here kept (d ∷ xs) y c = go (all_here (with_delegation d kept) xs y) (in_cases d xs y c)
  where
    go : (Contains xs y → Contains (kept_all (with_delegation d kept) xs) y) → (d ≡ y) ⊎ Contains xs y → Contains (kept_all (with_delegation d kept) xs) y
    go more (inl e) = all_before (with_delegation d kept) xs y (subst (λ z. Contains (with_delegation d kept) z) e (more_here d kept))
    go more (inr t) = more t

all_cases : (kept xs : List Delegation) (y : Delegation) → Contains (kept_all kept xs) y → Contains kept y ⊎ Contains xs y
all_cases kept [] y c = inl c
all_cases kept (d ∷ xs) y c = go (all_cases (with_delegation d kept) xs y c)
  where
    first : Contains kept y ⊎ (d ≡ y) → Contains kept y ⊎ Contains (d ∷ xs) y
    first (inl t) = inl t
    first (inr e) = inr (subst (λ z. Contains (d ∷ xs) z) e (in_head d xs))

    go : Contains (with_delegation d kept) y ⊎ Contains xs y → Contains kept y ⊎ Contains (d ∷ xs) y
    go (inl t) = first (more_cases d kept y t)
    go (inr t) = inr (in_tail d xs y t)

-- who holds

led_on : {K : Type 0} (edges : List (Option (Edge K))) (a : K) (places : List ℕ) (b : K) (place : ℕ) (c : K) → LeadsTo edges a places b → IsEdge edges place b c → LeadsTo edges a (places ++ place ∷ []) c
led_on edges a [] b place c p h = (c, subst (λ z. IsEdge edges place z c) (sym p) h, refl)
led_on edges a (q ∷ places) b place c (next, h', p) h = (next, h', led_on edges next places b place c p h)

-- more delegations, in any order, leave each holder a holder
pub more_hold : (first second : List Delegation) (moment : ℕ) (c : Category) → ((d : Delegation) → Contains first d → Contains second d)
    → (key : PubKey) → key_holds first moment c key ≡ true → key_holds second moment c key ≡ true
more_hold first second moment c inside key e =
    closed_list_has_holders same_key same_key_is (hop_of moment c) first c.creator (λ k. key_holds second moment c k ≡ true)
    (holds_by_chain same_key same_key_is edges c.creator c.creator [] refl) go key e
  where
    edges : List (Option (Edge PubKey))
    edges = hops_of_list moment c second

    hop_at : (cert : Delegation) (edge : Edge PubKey) → hop_of moment c cert ≡ Some edge → (k : ℕ) → slice_get second k ≡ Some cert → IsEdge edges k edge.by edge.to
    hop_at cert edge q k s = slice_get-map (hop_of moment c) second k ∙ ap (option_map (hop_of moment c)) s ∙ ap Some q

    led : (edge : Edge PubKey) (k : ℕ) → IsEdge edges k edge.by edge.to → (places : List ℕ) × LeadsTo edges c.creator places edge.by → key_holds second moment c edge.to ≡ true
    led edge k h (places, p) = holds_by_chain same_key same_key_is edges c.creator edge.to (places ++ k ∷ []) (led_on edges c.creator places edge.by k edge.to p h)

    go : (cert : Delegation) → Contains first cert → (edge : Edge PubKey) → hop_of moment c cert ≡ Some edge → key_holds second moment c edge.by ≡ true → key_holds second moment c edge.to ≡ true
    go cert there edge q by =
        let (k, below, at) = inside cert there in
        led edge k (hop_at cert edge q k (slice_get-get_or second k cert below ∙ ap Some at)) (chain_of_holder same_key same_key_is edges c.creator edge.by by)

pub both : (a b : Bool) → (a ≡ true → b ≡ true) → (b ≡ true → a ≡ true) → a ≡ b
both true b f g = sym (f refl)
both false true f g = g refl
both false false f g = refl

-- doubles make no difference
pub doubles_hold : (store xs : List Delegation) (moment : ℕ) (c : Category) (key : PubKey) → key_holds (store ++ kept_all [] xs) moment c key ≡ key_holds (store ++ xs) moment c key
doubles_hold store xs moment c key = both _ _ (more_hold (store ++ kept_all [] xs) (store ++ xs) moment c there key) (more_hold (store ++ xs) (store ++ kept_all [] xs) moment c back key)
  where
    from_all : (d : Delegation) → Contains [] d ⊎ Contains xs d → Contains (store ++ xs) d
    from_all d (inl n) = absurd (in_none d n)
    from_all d (inr t) = in_second store xs d t

    there_cases : (d : Delegation) → Contains store d ⊎ Contains (kept_all [] xs) d → Contains (store ++ xs) d
    there_cases d (inl t) = in_first store xs d t
    there_cases d (inr t) = from_all d (all_cases [] xs d t)

    there : (d : Delegation) → Contains (store ++ kept_all [] xs) d → Contains (store ++ xs) d
    there d t = there_cases d (in_either store (kept_all [] xs) d t)

    back_cases : (d : Delegation) → Contains store d ⊎ Contains xs d → Contains (store ++ kept_all [] xs) d
    back_cases d (inl t) = in_first store (kept_all [] xs) d t
    back_cases d (inr t) = in_second store (kept_all [] xs) d (all_here [] xs d t)

    back : (d : Delegation) → Contains (store ++ xs) d → Contains (store ++ kept_all [] xs) d
    back d t = back_cases d (in_either store xs d t)
