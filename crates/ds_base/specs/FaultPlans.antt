-- Which calls of an object in memory fail.
use Rattle.std.specs.Prelude.{ℕ, ◌+◌, ◌-◌, ◌^◌, min, max, List, Contains}

-- one more, but a counter stays at its last value
abbrev pub one_more : ℕ → ℕ
one_more n = max n (min (n + 1) (2 ^ 64 - 1))

-- the calls that are to fail, counted from 1; how many calls were made; how many faults came
pub record PlannedFaults : Type 0 where
  pub failing : List ℕ
  pub made : ℕ
  pub faults : ℕ

-- before any call
abbrev pub plan_of : List ℕ → PlannedFaults
plan_of calls = record { failing = calls; made = 0; faults = 0 }

-- the next call is to fail
abbrev pub IsDue : PlannedFaults → Type 0
IsDue p = Contains p.failing (one_more p.made)

-- after a call that didn't fail
abbrev pub passed : PlannedFaults → PlannedFaults
passed p = record { failing = p.failing; made = one_more p.made; faults = p.faults }

-- after a call that failed
abbrev pub failed : PlannedFaults → PlannedFaults
failed p = record { failing = p.failing; made = one_more p.made; faults = one_more p.faults }
