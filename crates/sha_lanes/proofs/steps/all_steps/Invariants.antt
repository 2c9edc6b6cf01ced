use Rattle.std.proofs.Common.{◌≡◌, ℕ, ◌+◌, ◌-◌, ◌<◌, List, length, min, slice_index}
use Rattle.sha_lanes.specs.Lanes.{chained, digest_in, front_words, lane}
use Rattle.sha_lanes.proofs.steps.all_steps.Given as goal

abbrev pub invariant-steps : goal.invariant-steps
invariant-steps i = (l : ℕ) → l < 8 → (slice_index i.at l ≡ min (slice_index i.fn.from l + i._turn) (slice_index i.to l))
    × ((p : List ℕ) → length p ≡ 22 → lane l i.front ≡ front_words p
    → digest_in l i.v ≡ chained p (slice_index i.fn.from l) (slice_index i.at l - slice_index i.fn.from l) (digest_in l i.start))
