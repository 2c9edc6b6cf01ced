use Rattle.std.proofs.Common.{◌≡◌, ℕ, ◌<◌, ◌≤◌, length, slice_index}
use Rattle.lms_sig.specs.Parameters.{chain_length, width}
use Rattle.lms_sig.specs.Strings.{coef}
use Rattle.lms_sig.proofs.one_time.digits_of.Given as goal

abbrev pub invariant-places : goal.invariant-places
invariant-places i = (length i.out ≡ 72) × (((j : ℕ) → j < i.i → (slice_index i.out j ≡ coef i.digits j (width i.ots)) × (slice_index i.out j ≤ chain_length i.ots))
    × ((j : ℕ) → i.i ≤ j → slice_index i.out j ≡ 0))
