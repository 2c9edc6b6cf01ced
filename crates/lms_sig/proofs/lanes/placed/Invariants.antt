use Rattle.std.proofs.Common.{◌≡◌, ℕ, ◌<◌, List, [], length, slice_index, slice_index_or}
use Rattle.lms_sig.proofs.lanes.placed.Given as goal

abbrev pub invariant-lanes : goal.invariant-lanes
invariant-lanes i = (length i.all ≡ 72) × ((E : ℕ → List ℕ) → ((l : ℕ) → l < 8 → slice_index_or i.values l [] ≡ E (slice_index i.chains l))
    → ((j : ℕ) → j < i.l → slice_index_or i.all (slice_index i.chains j) [] ≡ E (slice_index i.chains j))
    × ((n : ℕ) → slice_index_or i.out n [] ≡ E n → slice_index_or i.all n [] ≡ E n))
