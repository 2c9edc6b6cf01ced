use Rattle.std.proofs.Common.{◌≡◌, subst, rules}
use Rattle.std.specs.List.Sorted.{IsSortedByKey, IsStableByKey}
use Rattle.std.proofs.lemmas.Fn.{always_returns_same}
use Rattle.ds_merge.specs.declared.order.EventPlace.{EventPlace}
use Rattle.ds_merge.proofs.Derived.{keys_cmp}
use Rattle.ds_merge.proofs.order.sort_places.Goals as goal

pub returns-in-Ok-clause-sorted : goal.returns-in-Ok-clause-sorted
returns-in-Ok-clause-sorted c =
    subst (λ cmp. IsSortedByKey (λ (p : EventPlace). p.key) cmp c.sort_by_key-sorted.new.self.items) (λ i a b. keys_cmp a b i)
    (c.in-Ok.ensures.sorted (λ (p : EventPlace). p.key) (always_returns_same _ (λ a r. r ≡ a.0.now.key) _ (λ a r q k. search rules)))

pub returns-in-Ok-clause-stable : goal.returns-in-Ok-clause-stable
returns-in-Ok-clause-stable c =
    subst (λ cmp. IsStableByKey (λ (p : EventPlace). p.key) cmp c.args.places.now.items c.sort_by_key-sorted.new.self.items) (λ i a b. keys_cmp a b i)
    (c.in-Ok.ensures.stable (λ (p : EventPlace). p.key) (always_returns_same _ (λ a r. r ≡ a.0.now.key) _ (λ a r q k. search rules)))
