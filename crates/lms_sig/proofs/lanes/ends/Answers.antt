use Rattle.std.proofs.Common.{◌≡◌, ◌+◌, ◌-◌, ◌*◌, ◌<◌, ◌∙◌, [], List, ℕ, ap, arith, slice_index, slice_index_or, subst, inl, inr}
use Rattle.std.proofs.lemmas.Bool.{cases_lt}
use Rattle.lms_sig.specs.Ends.{end_at}
use Rattle.lms_sig.proofs.lanes.ends.Goals as goal

pub groups-preserved : goal.groups-preserved
groups-preserved c k below =
    let E : ℕ → List ℕ = end_at c.args.id.now c.args.q c.args.from.now c.args.to.now c.args.starts.now in
    let order = c.order_of-order.result in
    let g = c.groups.group in
    let chains = c.group_of-chains.result in
    let right : (l : ℕ) → l < 8 → slice_index_or c.eight_chains-values.result l [] ≡ E (slice_index chains l) = λ l lt.
    rw (c.bytes_at.ensures l lt, c.bytes_at-in-groups.ensures l lt, c.values_at.ensures l lt) at (c.eight_chains-values.ensures l lt) in
    let put = c.placed-out.ensures E right in
    elim (cases_lt k (8 * g)) [
      | inl old ↦ put.1 (slice_index order k) (c.groups.invariant k old)
      | inr new ↦
          let l = k - 8 * g in
          let lt : l < 8 = omega arith in
          let place : 8 * g + l ≡ k = omega arith in
          let same : slice_index chains l ≡ slice_index order k = c.group_of-chains.ensures l lt ∙ ap (λ n. slice_index order n) place in
          subst (λ n. slice_index_or c.placed-out.result n [] ≡ E n) same (put.0 l lt)
    ]

pub returns : goal.returns
returns c i below =
    let E : ℕ → List ℕ = end_at c.args.id.now c.args.q c.args.from.now c.args.to.now c.args.starts.now in
    let s = c.order_of-order.ensures.each i below in
    subst (λ n. slice_index_or c.groups.out n [] ≡ E n) s.here (c.groups.invariant s.place (omega (arith, s.below)))
