-- A mailbox of messages of any kind. It changes by its entries alone: what each one does, when it may stand, and which
-- one a put makes.
use Rattle.std.specs.Prelude.{ℕ, Bool, List, [], ◌∷◌, ◌++◌, Option, Some, None, length, slice_get, nat_lt, nat_le, if◌then◌else◌}
use Rattle.ds_model.specs.Stepping.{stepping}

-- a message that was put; one that found the mailbox full; a take of the oldest
pub data BoxEntry (M : Type 0) : Type 0 where
  PutIn : M → BoxEntry M
  FoundFull : M → BoxEntry M
  TookOut : BoxEntry M

-- A put appends the message, a full mailbox drops it, and a take takes the oldest.
abbrev pub box_after : {M : Type 0} → BoxEntry M → List M → List M
box_after (PutIn m) waiting = waiting ++ m ∷ []
box_after (FoundFull m) waiting = waiting
box_after TookOut [] = []
box_after TookOut (m ∷ waiting) = waiting

-- fewer than `room` wait at a put, `room` of them where it is full, and one is there at a take
abbrev pub box_needs : {M : Type 0} → (room : ℕ) → BoxEntry M → List M → Bool
box_needs room (PutIn m) waiting = nat_lt (length waiting) room
box_needs room (FoundFull m) waiting = nat_le room (length waiting)
box_needs room TookOut waiting = nat_lt 0 (length waiting)

-- one entry of a history of what waits
abbrev pub box_step : {M : Type 0} → (room : ℕ) → List M → BoxEntry M → Option (List M)
box_step room = stepping (box_needs room) box_after

-- the entry that a put makes, by the room
abbrev pub put_entry : {M : Type 0} → ℕ → M → List M → BoxEntry M
put_entry room m waiting = if nat_lt (length waiting) room then PutIn m else FoundFull m

-- a mailbox: what waits, and its entries since the start
pub record Box (M : Type 0) : Type 0 where
  pub waiting : List M
  pub entries : List (BoxEntry M)

-- the mailbox after an entry
abbrev pub box_enter : {M : Type 0} → BoxEntry M → Box M → Box M
box_enter entry b = record { waiting = box_after entry b.waiting; entries = b.entries ++ entry ∷ [] }

-- a message put into a mailbox with this room
abbrev pub put : {M : Type 0} → ℕ → M → Box M → Box M
put room m b = box_enter (put_entry room m b.waiting) b

-- the message that waits longest
abbrev pub oldest : {M : Type 0} → Box M → Option M
oldest b = slice_get b.waiting 0

-- a take, by the oldest message
abbrev pub took_with : {M : Type 0} → Box M → Option M → Box M
took_with b None = b
took_with b (Some m) = box_enter TookOut b

-- the oldest message taken; as it was where none waits
abbrev pub took : {M : Type 0} → Box M → Box M
took b = took_with b (oldest b)
