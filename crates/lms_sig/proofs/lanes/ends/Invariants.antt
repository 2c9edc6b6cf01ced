use Rattle.std.proofs.Common.{◌≡◌, ℕ, ◌*◌, ◌<◌, [], slice_index, slice_index_or}
use Rattle.lms_sig.specs.Ends.{end_at}
use Rattle.lms_sig.proofs.lanes.ends.Given as goal

abbrev pub invariant-groups : goal.invariant-groups
invariant-groups i = (k : ℕ) → k < 8 * i.group → slice_index_or i.out (slice_index i.order k) [] ≡ end_at i.id i.q i.from i.to i.starts (slice_index i.order k)
