-- The definitions at work on lists that are written out; keys are numbers, and the creator's is 0.
use Rattle.std.proofs.Common.{◌≡◌, ℕ, true, false, List, [], ◌∷◌, refl}
use Rattle.std.specs.Prelude.{Option, Some, None, nat_eq}
use Rattle.ds_chain.specs.declared.edge.Edge.{Edge}
use Rattle.ds_chain.specs.Holding.{holds}
use Rattle.ds_chain.specs.Shortest.{shortest_chain}

abbrev edge : ℕ → ℕ → Option (Edge ℕ)
edge by to = Some (record { by = by; to = to })

-- two chains as short to the key 3: the lesser places
abbrev two_ways : List (Option (Edge ℕ))
two_ways = edge 0 1 ∷ edge 0 2 ∷ edge 2 3 ∷ edge 1 3 ∷ []

two_ways_held : holds nat_eq two_ways 0 3 ≡ true
unfolding holds
two_ways_held = refl

two_ways_shortest : shortest_chain nat_eq two_ways 0 3 ≡ Some (0 ∷ 3 ∷ [])
unfolding shortest_chain
two_ways_shortest = refl

-- a certificate in the middle that does not count
abbrev lapsed : List (Option (Edge ℕ))
lapsed = edge 0 1 ∷ None ∷ edge 2 3 ∷ []

lapsed_not_held : holds nat_eq lapsed 0 3 ≡ false
unfolding holds
lapsed_not_held = refl

lapsed_none : shortest_chain nat_eq lapsed 0 3 ≡ None
unfolding shortest_chain
lapsed_none = refl

-- the creator's own chain
own_chain : shortest_chain nat_eq lapsed 0 0 ≡ Some []
unfolding shortest_chain
own_chain = refl
