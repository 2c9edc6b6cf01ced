-- Where chains end that start and stop at steps of their own.
use Rattle.std.specs.Prelude.{◌≡◌, ℕ, ◌-◌, ◌<◌, List, [], slice_index, slice_index_or}
use Rattle.lms_sig.specs.OneTime.{steps}

-- chain i, from its value starts[i] after from[i] steps to its value after to[i] steps
abbrev pub end_at : List ℕ → ℕ → List ℕ → List ℕ → List (List ℕ) → ℕ → List ℕ
end_at I q from to starts i = steps I q i (slice_index from i) (slice_index to i - slice_index from i) (slice_index_or starts i [])

-- i stands among the first n numbers
pub record Stands (order : List ℕ) (n i : ℕ) : Type 0 where
  pub place : ℕ
  pub below : place < n
  pub here : slice_index order place ≡ i
