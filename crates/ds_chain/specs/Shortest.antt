-- The shortest chain as a function: what answers, of each number of edges and of each place in turn.
use Rattle.std.specs.Prelude.{ℕ, zero, suc, Bool, List, [], ◌∷◌, length, Option, Some, None, option_map, slice_get, if◌then◌else◌}
use Rattle.ds_chain.specs.declared.edge.Edge.{Edge}

abbrev pub or_else : {A : Type 0} → Option A → Option A → Option A
or_else None other = other
or_else (Some x) other = Some x

-- the answer of the first number that has one, of so many from the lowest on
abbrev pub first_answer : {A : Type 0} → (ℕ → Option A) → ℕ → ℕ → Option A
first_answer answer low zero = None
first_answer answer low (suc count) = or_else (answer low) (first_answer answer (suc low) count)

-- the place and then the rest of a chain, where a certificate stands there that counts and that the key signed
abbrev pub chain_by : {K : Type 0} → (K → K → Bool) → K → ℕ → (K → Option (List ℕ)) → Option (Option (Edge K)) → Option (List ℕ)
chain_by same key place rest None = None
chain_by same key place rest (Some None) = None
chain_by same key place rest (Some (Some edge)) = if same edge.by key then option_map (λ places. place ∷ places) (rest edge.to) else None

-- the chain of so many edges from one key to another that is least place by place
abbrev pub least_chain : {K : Type 0} → (K → K → Bool) → List (Option (Edge K)) → K → ℕ → K → Option (List ℕ)
least_chain same edges key zero by = if same by key then Some [] else None
least_chain same edges key (suc n) by = first_answer (λ place. chain_by same by place (least_chain same edges key n) (slice_get edges place)) 0 (length edges)

-- the shortest chain from the creator to the key, and of these the least place by place
unfoldable pub shortest_chain : {K : Type 0} → (K → K → Bool) → List (Option (Edge K)) → K → K → Option (List ℕ)
shortest_chain same edges creator key = first_answer (λ n. least_chain same edges key n creator) 0 (suc (length edges))
