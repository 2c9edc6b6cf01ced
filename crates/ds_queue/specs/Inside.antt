-- What the fields of a queue are, and what they keep.
use Rattle.std.specs.Prelude.{◌≡◌, ℕ, List, [], Option, Some, None}
use Rattle.circular_buffer.specs.Buffer.{Buffer}

-- what stands in the ring, if it was made
abbrev pub ring_items : {X : Type 0} → Option (Buffer X) → List X
ring_items None = []
ring_items (Some ring) = ring.items

-- the ring has the queue's room
abbrev pub IsRingOf : {X : Type 0} → (room : ℕ) → Option (Buffer X) → Type 0
IsRingOf room None = Unit {0}
IsRingOf room (Some ring) = ring.capacity ≡ room
