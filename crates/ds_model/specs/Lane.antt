-- A lane's waiting list, shared by the processes that send and the worker that lifts, for messages of any kind. It changes
-- by its entries alone.
use Rattle.std.specs.Prelude.{ℕ, Bool, ◌&&◌, ◌==◌, List, [], ◌∷◌, ◌++◌, Option, length, take, drop, min, nat_lt, nat_le, if◌then◌else◌}
use Rattle.ds_model.specs.Stepping.{stepping}

-- most messages of a frame
abbrev pub frame_limit : ℕ
frame_limit = 16

-- a message that was queued; one that found the list full; a lift of so many
pub data LaneEntry (M : Type 0) : Type 0 where
  Queued : M → LaneEntry M
  QueueFull : M → LaneEntry M
  Lifted : (count : ℕ) → LaneEntry M

-- A queued message is appended, a full list drops it, and a lift takes the first so many.
abbrev pub lane_after : {M : Type 0} → LaneEntry M → List M → List M
lane_after (Queued m) waiting = waiting ++ m ∷ []
lane_after (QueueFull m) waiting = waiting
lane_after (Lifted count) waiting = drop count waiting

-- A lift takes all that wait, and at most 16, and not none.
abbrev pub lane_needs : {M : Type 0} → (room : ℕ) → LaneEntry M → List M → Bool
lane_needs room (Queued m) waiting = nat_lt (length waiting) room
lane_needs room (QueueFull m) waiting = nat_le room (length waiting)
lane_needs room (Lifted count) waiting = nat_lt 0 count && (count == min frame_limit (length waiting))

-- one entry of a history of what waits
abbrev pub lane_step : {M : Type 0} → (room : ℕ) → List M → LaneEntry M → Option (List M)
lane_step room = stepping (lane_needs room) lane_after

-- the entry that a message makes, by the room
abbrev pub admit_entry : {M : Type 0} → ℕ → M → List M → LaneEntry M
admit_entry room m waiting = if nat_lt (length waiting) room then Queued m else QueueFull m

-- a message admitted to a list with this room
abbrev pub admit : {M : Type 0} → ℕ → M → List M → List M
admit room m waiting = lane_after (admit_entry room m waiting) waiting

-- what a lift takes
abbrev pub front : {M : Type 0} → List M → List M
front waiting = take (min frame_limit (length waiting)) waiting

-- and what it leaves
abbrev pub lifted : {M : Type 0} → List M → List M
lifted [] = []
lifted (m ∷ waiting) = lane_after (Lifted (min frame_limit (length (m ∷ waiting)))) (m ∷ waiting)
