use Rattle.std.proofs.Common.{◌≡◌, ◌++◌, ℕ, List, length, take, drop, Some, None, refl, sym, subst, ◌∙◌, ap}
use Rattle.std.specs.Prelude.{Option, set, replicate}
use Rattle.std.proofs.lemmas.List.{take_at, length-set}
use Rattle.ds_chain.specs.Distance.{AreKnown, AreSettled}
use Rattle.ds_chain.proofs.Levels.{known_first}
use Rattle.ds_chain.proofs.distance.distances_to.Goals as goal

only_none : (R : Option ℕ → Type 0) → ((x : ℕ) → R (Some x) → ⊥) → (y : Option ℕ) → R y → y ≡ None
only_none R f None r = refl
only_none R f (Some x) r = absurd (f x r)

pub returns-clause-settled : goal.returns-clause-settled
returns-clause-settled c =
    let all_none : c.in_ok-distances.distances.items ≡ replicate c.args.count None = c.in_ok-distances.ensures.items_if_clones_equal (only_none _ (λ x h. h)) in
    let first : c.deref_mut.result.now ≡ set (replicate c.args.count None) c.args.key (Some 0) =
    c.deref_mut.ensures.value ∙ ap (λ (items : List (Option ℕ)). set items c.args.key (Some 0)) all_none in
    let known : AreKnown c.args.edges.now c.args.key 0 c.deref_mut.result.now =
    subst (λ (distances : List (Option ℕ)). AreKnown c.args.edges.now c.args.key 0 distances) (sym first) (known_first c.args.edges.now c.args.count c.args.key c.requires.key) in
    let whole : take c.in_ok-distances.distances.len (c.settle.new.distances ++ drop (length c.settle.new.distances) (set c.in_ok-distances.distances.items c.args.key (Some 0))) ≡ c.settle.new.distances =
    take_at c.settle.new.distances _ c.in_ok-distances.distances.len (c.settle.auto.distances ∙ ap length c.deref_mut.ensures.value ∙ length-set c.in_ok-distances.distances.items c.args.key (Some 0) ∙ sym c.in_ok-distances.distances.ok.0) in
    subst (λ (distances : List (Option ℕ)). AreSettled c.args.edges.now c.args.key distances) (sym whole) (c.settle.ensures.settled c.args.key known)
