use Rattle.std.proofs.Common.{◌≡◌, ℕ, ◌*◌, ◌<◌, [], length, slice_index_or}
use Rattle.lms_sig.specs.Strings.{part}
use Rattle.lms_sig.proofs.one_time.values_of.Given as goal

abbrev pub invariant-places : goal.invariant-places
invariant-places i = (length i.out ≡ 72) × ((j : ℕ) → j < i.i → slice_index_or i.out j [] ≡ part i.values (32 * j) 32)
