-- A reader of a stream, and what one call makes of it.
use Rattle.std.specs.Prelude.{◌≡◌, ℕ, ◌+◌, ◌-◌, ◌≤◌, List, [], ◌++◌, length, Option, Some, None, Result, Ok, Err}
use Rattle.ds_cert.specs.declared.lane.LaneCert.{LaneCert}
use Rattle.ds_frame.specs.declared.item.Failure.{Failure}
use Rattle.ds_frame.specs.declared.item.Item.{Item}
use Rattle.ds_frame.specs.declared.item.Item.TheVariants as items
use Rattle.ds_frame.specs.declared.item.ReadEnd.{ReadEnd}
use Rattle.ds_frame.specs.declared.item.ReadEnd.TheVariants as ends
use Rattle.ds_frame.specs.Fields.{ReadFault, Open, Broken}
use Rattle.ds_frame.specs.Checks.{read_item}

pub record Reader : Type 0 where
  -- the bytes that are not handed out yet, and how many there are before them
  pub rest : List ℕ
  pub passed : ℕ
  -- the lane certificate, once the hello was handed out
  pub lane : Option LaneCert
  pub failure : Option Failure

abbrev pub new_reader : Reader
new_reader = record { rest = []; passed = 0; lane = None; failure = None }

-- for how many bytes more there is space, if it keeps at most as many as the longest frame has
abbrev pub space_of : Reader → ℕ
space_of r = 1158249 - length r.rest

abbrev pub fed : (piece : List ℕ) → Reader → Reader
fed piece r = record r { rest = r.rest ++ piece }

-- the lane certificate of a hello; a frame leaves it as it is
abbrev pub lane_after : Item → Option LaneCert → Option LaneCert
lane_after (items.Hello lane) before = Some lane
lane_after (items.Frame frame) before = before

-- how items are read: by the lane certificate, if there is one yet, off the front of bytes
abbrev pub Reading : Type 0
Reading = Option LaneCert → List ℕ → Result (Item × List ℕ) ReadFault

-- what a call of next answers, and the reader after it
pub record Answer : Type 0 where
  pub answer : Result Item ReadEnd
  pub reader : Reader

-- an item is handed out: its bytes join those before
abbrev pub answer_of : Reader → Result (Item × List ℕ) ReadFault → Answer
answer_of r (Ok x) = record { answer = Ok x.0; reader = record r { rest = x.1; passed = r.passed + (length r.rest - length x.1); lane = lane_after x.0 r.lane } }
answer_of r (Err Open) = record { answer = Err ends.NotYet; reader = r }
answer_of r (Err (Broken cause offset)) = record { answer = Err (ends.BadFrame cause (r.passed + offset)); reader = record r { failure = Some (record { cause = cause; place = r.passed + offset }) } }

-- a reader that failed answers the same for ever
abbrev pub next_unless : Option Failure → Reading → Reader → Answer
next_unless None reading r = answer_of r (reading r.lane r.rest)
next_unless (Some failure) reading r = record { answer = Err (ends.BadFrame failure.cause failure.place); reader = r }

abbrev pub next_by : Reading → Reader → Answer
next_by reading r = next_unless r.failure reading r

-- What a call of next did: what the definition says, or nothing where memory ran out.
abbrev pub Answered : (before : Reader) → Result Item ReadEnd → (after : Reader) → Type 0
Answered before (Err ends.NoMemory) after = after ≡ before
Answered before (Err ends.NotYet) after = next_by read_item before ≡ record { answer = Err ends.NotYet; reader = after }
Answered before (Err (ends.BadFrame cause place)) after = next_by read_item before ≡ record { answer = Err (ends.BadFrame cause place); reader = after }
Answered before (Ok item) after = next_by read_item before ≡ record { answer = Ok item; reader = after }

-- a reader that waits for more bytes has space for one
abbrev pub LeavesSpace : Result Item ReadEnd → (after : Reader) → Type 0
LeavesSpace (Ok item) after = Unit {0}
LeavesSpace (Err ends.NotYet) after = 1 ≤ space_of after
LeavesSpace (Err (ends.BadFrame cause place)) after = Unit {0}
LeavesSpace (Err ends.NoMemory) after = Unit {0}
