-- A shared object changes by its entries alone. For each object stand its entries, what each one does to the state, and
-- when each one may stand. A history is a list of entries that lead, each where it may stand, from an opening to a state.
use Rattle.std.specs.Prelude.{Bool, Option, Some, None, if◌then◌else◌}

-- the state after an entry, or none where the entry may not stand
abbrev pub stepping : {S E : Type 0} → (needs : E → S → Bool) → (after : E → S → S) → S → E → Option S
stepping needs after state entry = if needs entry state then Some (after entry state) else None
