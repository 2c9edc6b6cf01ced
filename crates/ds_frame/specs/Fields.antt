-- Reading the front of a stream from left to right. A reader answers a value and the bytes that follow it. Where a field isn't
-- whole yet, the front is open; where one that is whole is out of range, the stream is broken.
use Rattle.std.specs.Prelude.{◌≡◌, ◌≤◌, ◌<◌, ℕ, List, Option, Some, None, Result, Ok, Err, nat_lt, if◌then◌else◌}
use Rattle.std.specs.Int.{Width}
use Rattle.ds_wire.specs.Fields.{number_at}
use Rattle.ds_cert.specs.Fields.{◌>>=◌}
use Rattle.ds_frame.specs.declared.cause.Cause.{Cause}
use Rattle.ds_frame.specs.declared.item.ReadFaultOrMemory.{ReadFaultOrMemory}
use Rattle.ds_frame.specs.declared.item.ReadFaultOrMemory.TheVariants as halts

-- why reading stops; what is at fault stands that many bytes behind the front's first
pub data ReadFault : Type 0 where
  Open : ReadFault
  Broken : (cause : Cause) → (offset : ℕ) → ReadFault

-- one field
abbrev pub field : {A : Type 0} → Option (A × List ℕ) → Result (A × List ℕ) ReadFault
field (Some x) = Ok x
field None = Err Open

-- a number of that width, from low to high
unfoldable pub number_from : Width → (low high : ℕ) → Cause → (offset : ℕ) → List ℕ → Result (ℕ × List ℕ) ReadFault
number_from w low high cause offset bytes = do
  n ← field (number_at w bytes)
  if nat_lt n.0 low then Err (Broken cause offset) else if nat_lt high n.0 then Err (Broken cause offset) else Ok n

-- What a function answered, seen by view, is what reading gives, unless memory ran out.
abbrev pub Halts : {Y : Type 0} → ReadFaultOrMemory → Result Y ReadFault → Type 0
Halts halts.NoMemory read = Unit {0}
Halts halts.Open read = read ≡ Err Open
Halts (halts.Broken cause offset) read = read ≡ Err (Broken cause offset)

abbrev pub Finds : {X Y : Type 0} → (X → Y) → Result X ReadFaultOrMemory → Result Y ReadFault → Type 0
Finds view (Ok x) read = read ≡ Ok (view x)
Finds view (Err e) read = Halts e read

-- what is at fault stands among that many bytes
abbrev pub IsAmong : {X : Type 0} → (length : ℕ) → Result X ReadFaultOrMemory → Type 0
IsAmong length (Ok x) = Unit {0}
IsAmong length (Err halts.NoMemory) = Unit {0}
IsAmong length (Err halts.Open) = Unit {0}
IsAmong length (Err (halts.Broken cause offset)) = offset ≤ length

-- where a field isn't whole, there are fewer bytes than that
abbrev pub IsOpenBelow : {X : Type 0} → (most length : ℕ) → Result X ReadFaultOrMemory → Type 0
IsOpenBelow most length (Ok x) = Unit {0}
IsOpenBelow most length (Err halts.NoMemory) = Unit {0}
IsOpenBelow most length (Err halts.Open) = length < most
IsOpenBelow most length (Err (halts.Broken cause offset)) = Unit {0}
