-- The objects in memory, as contracts see them.
use Rattle.std.specs.Prelude.{ℕ, List, Bool}
use Rattle.ds_base.specs.FaultPlans.{PlannedFaults}

-- a source: the bytes that are left, the count of ends, and the plan of its faults
pub record Supply : Type 0 where
  pub left : List ℕ
  pub ends : ℕ
  pub plan : PlannedFaults

-- a source that never fails
pub record CalmSupply : Type 0 where
  pub left : List ℕ
  pub ends : ℕ

-- a sink: the bytes written so far, how many a call takes at most, and the plan of its faults
pub record Output : Type 0 where
  pub written : List ℕ
  pub piece : ℕ
  pub plan : PlannedFaults

-- a keeper that never fails: a raise was made
pub record CalmMarks : Type 0 where
  pub raised : Bool

-- a keeper: the names and their marks, the failing raises that keep the new number, and the plan of its faults
pub record Marks : Type 0 where
  pub marks : List (List ℕ × ℕ)
  pub keeping : List ℕ
  pub plan : PlannedFaults

-- a wire: the connections that are left to accept and to make, and the plan of its faults
pub record Connections (I O : Type 0) : Type 0 where
  pub accepts : List I
  pub connects : List O
  pub plan : PlannedFaults
