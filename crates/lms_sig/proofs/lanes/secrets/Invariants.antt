use Rattle.std.proofs.Common.{◌≡◌, ℕ, ◌*◌, ◌<◌, [], slice_index_or}
use Rattle.lms_sig.specs.OneTime.{x}
use Rattle.lms_sig.proofs.lanes.secrets.Given as goal

abbrev pub invariant-eights : goal.invariant-eights
invariant-eights i = (n : ℕ) → n < 8 * i.group → slice_index_or i.out n [] ≡ x i.seed i.id i.q n
