-- A list with room for a fixed number of items.
use Rattle.std.specs.Prelude.{ℕ, Bool, false, List, []}

-- the items, the oldest first; how many there may be; and whether the memory for that many was taken
pub record QueueOf (X : Type 0) : Type 0 where
  pub items : List X
  pub room : ℕ
  pub is_ready : Bool

abbrev pub new_queue : {X : Type 0} → (room : ℕ) → QueueOf X
new_queue room = record { items = []; room = room; is_ready = false }
