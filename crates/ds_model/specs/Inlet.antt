-- An inlet: the number of the last frame that was taken from its lane, or none. It changes by its entries alone.
use Rattle.std.specs.Prelude.{ℕ, Bool, true, not, Option, Some, None, nat_lt, if◌then◌else◌}
use Rattle.ds_model.specs.Stepping.{stepping}

-- the last number, or none
abbrev pub Inlet : Type 0
Inlet = Option ℕ

-- a frame's number, fresh or stale
pub data InletEntry : Type 0 where
  Fresh : (number : ℕ) → InletEntry
  Stale : (number : ℕ) → InletEntry

-- a fresh number becomes the last one
abbrev pub inlet_after : InletEntry → Inlet → Inlet
inlet_after (Fresh number) last = Some number
inlet_after (Stale number) last = last

-- a frame's number is fresh where it is above the last one, or there was none
abbrev pub is_fresh : ℕ → Inlet → Bool
is_fresh number None = true
is_fresh number (Some last) = nat_lt last number

-- a fresh number is fresh, and a stale one isn't
abbrev pub inlet_needs : InletEntry → Inlet → Bool
inlet_needs (Fresh number) last = is_fresh number last
inlet_needs (Stale number) last = not (is_fresh number last)

-- one entry of a history of the last number
abbrev pub inlet_step : Inlet → InletEntry → Option Inlet
inlet_step = stepping inlet_needs inlet_after

-- the entry of a frame's number
abbrev pub number_entry : ℕ → Inlet → InletEntry
number_entry number last = if is_fresh number last then Fresh number else Stale number

-- the inlet after a frame with this number
abbrev pub numbered : ℕ → Inlet → Inlet
numbered number last = inlet_after (number_entry number last) last
