-- Lists of certificates that grow by those that are new.
use Rattle.std.proofs.Common.{◌≡◌, ℕ, ◌+◌, ◌<◌, ◌≤◌, Bool, true, false, List, [], ◌∷◌, ◌++◌, length, length-append, get_or, drop, cond, sym, ◌∙◌, ap, subst, arith}
use Rattle.std.specs.List.{flat_map}
use Rattle.std.proofs.lemmas.List.{drop_more}
use Rattle.std.proofs.lemmas.List.Sums.{fold-append}
use Rattle.ds_cert.specs.declared.address.Address.{Address}
use Rattle.ds_cert.specs.declared.delegation.Delegation.{Delegation}
use Rattle.ds_cert.specs.NoDoubles.{is_kept_address, with_address, with_delegation}
use Rattle.ds_boot.specs.Desks.{with_addresses, with_delegations}

-- a list never gets shorter
one_more : (new : Address) (kept : List Address) → length kept ≤ length (with_address new kept)
one_more new kept = go (is_kept_address new kept)
  where
    go : (b : Bool) → length kept ≤ length (cond b kept (kept ++ new ∷ []))
    go true = omega arith
    go false = omega (arith, length-append kept (new ∷ []))

pub longer : (kept new : List Address) → length kept ≤ length (with_addresses kept new)
longer kept [] = omega arith
longer kept (a ∷ new) = omega (arith, one_more a kept, longer (with_address a kept) new)

pub addresses-append : (kept xs ys : List Address) → with_addresses kept (xs ++ ys) ≡ with_addresses (with_addresses kept xs) ys
addresses-append kept xs ys = fold-append (λ (kept : List Address) (new : Address). with_address new kept) kept xs ys

-- what is left begins with this one
pub next_fits : (kept : List Address) (xs : List Address) (i : ℕ) (d y : Address) (total : List Address) → i < length xs → y ≡ get_or xs i d → with_addresses kept (drop i xs) ≡ total → length total ≤ 64 → length (with_address y kept) ≤ 64
next_fits kept xs i d y total lt item so_far few = subst (λ (z : Address). length (with_address z kept) ≤ 64) (sym item) (first_fits kept xs i d total lt so_far few)
  where
    first_fits : (kept : List Address) (xs : List Address) (i : ℕ) (d : Address) (total : List Address) → i < length xs → with_addresses kept (drop i xs) ≡ total → length total ≤ 64 → length (with_address (get_or xs i d) kept) ≤ 64
    first_fits kept xs i d total lt so_far few =
        let rest : with_addresses (with_address (get_or xs i d) kept) (drop (i + 1) xs) ≡ total = sym (ap (λ (ys : List Address). with_addresses kept ys) (drop_more xs i d lt)) ∙ so_far in
        let size : length (with_addresses (with_address (get_or xs i d) kept) (drop (i + 1) xs)) ≡ length total = ap (λ (ys : List Address). length ys) rest in
        omega (arith, longer (with_address (get_or xs i d) kept) (drop (i + 1) xs), size, few)

-- what is left begins with what this one gives
pub next_fits_of : {X : Type 0} (f : X → List Address) (kept : List Address) (xs : List X) (i : ℕ) (d y : X) (total : List Address) → i < length xs → y ≡ get_or xs i d → with_addresses kept (flat_map f (drop i xs)) ≡ total → length total ≤ 64
    → length (with_addresses kept (f y)) ≤ 64
next_fits_of {X} f kept xs i d y total lt item so_far few =
    let here = f y in
    let rest : with_addresses (with_addresses kept here) (flat_map f (drop (i + 1) xs)) ≡ total =
    ap (λ (z : X). with_addresses (with_addresses kept (f z)) (flat_map f (drop (i + 1) xs))) item ∙ (sym (addresses-append kept (f (get_or xs i d)) (flat_map f (drop (i + 1) xs))) ∙ (sym (ap (λ (ys : List X). with_addresses kept (flat_map f ys)) (drop_more xs i d lt)) ∙ so_far)) in
    let size : length (with_addresses (with_addresses kept here) (flat_map f (drop (i + 1) xs))) ≡ length total = ap (λ (ys : List Address). length ys) rest in
    omega (arith, longer (with_addresses kept here) (flat_map f (drop (i + 1) xs)), size, few)

-- one thing's addresses more, and the rest is to come
pub addresses_step : {X : Type 0} (f : X → List Address) (kept new : List Address) (xs : List X) (i : ℕ) (d : X) (total : List Address) → i < length xs → new ≡ with_addresses kept (f (get_or xs i d))
    → with_addresses kept (flat_map f (drop i xs)) ≡ total → with_addresses new (flat_map f (drop (i + 1) xs)) ≡ total
addresses_step {X} f kept new xs i d total lt is so_far =
    ap (λ (ys : List Address). with_addresses ys (flat_map f (drop (i + 1) xs))) is
    ∙ (sym (addresses-append kept (f (get_or xs i d)) (flat_map f (drop (i + 1) xs))) ∙ (sym (ap (λ (ys : List X). with_addresses kept (flat_map f ys)) (drop_more xs i d lt)) ∙ so_far))

pub delegations_step : {X : Type 0} (f : X → List Delegation) (kept new : List Delegation) (xs : List X) (i : ℕ) (d : X) (total : List Delegation) → i < length xs → new ≡ with_delegations kept (f (get_or xs i d))
    → with_delegations kept (flat_map f (drop i xs)) ≡ total → with_delegations new (flat_map f (drop (i + 1) xs)) ≡ total
delegations_step {X} f kept new xs i d total lt is so_far =
    ap (λ (ys : List Delegation). with_delegations ys (flat_map f (drop (i + 1) xs))) is
    ∙ (sym (fold-append (λ (kept : List Delegation) (new : Delegation). with_delegation new kept) kept (f (get_or xs i d)) (flat_map f (drop (i + 1) xs)))
    ∙ (sym (ap (λ (ys : List X). with_delegations kept (flat_map f ys)) (drop_more xs i d lt)) ∙ so_far))
