-- Reading from left to right. A reader answers a value and the bytes that follow it, or the first field at fault, told by
-- how many bytes there are from the first byte of that field on.
use Rattle.std.specs.Prelude.{◌≡◌, ℕ, ◌-◌, ◌+◌, ◌^◌, ◌<◌, ◌≤◌, List, length, Option, Some, None, Result, Ok, Err, nat_lt, ◌==◌, if◌then◌else◌}
use Rattle.std.specs.Int.{Width}
use Rattle.ds_wire.specs.Fields.{number_at, bytes_at}
use Rattle.ds_cert.specs.declared.fault.ReadFault.{ReadFault}
use Rattle.ds_cert.specs.declared.fault.ReadFault.TheVariants as read_faults
use Rattle.ds_cert.specs.declared.fault.CertFault.{CertFault}
use Rattle.ds_cert.specs.declared.fault.CertFault.TheVariants as cert_faults

infixl 10 ◌>>=◌
abbrev pub ◌>>=◌ : {A B E : Type 0} → Result A E → (A → Result B E) → Result B E
(Ok x) >>= f = f x
(Err e) >>= f = Err e

-- one field: the fault is the whole field's
abbrev pub whole : {A : Type 0} → List ℕ → Option (A × List ℕ) → Result (A × List ℕ) ℕ
whole bytes (Some x) = Ok x
whole bytes None = Err (length bytes)

-- a number of that width, from low to high
unfoldable pub number_within : Width → ℕ → ℕ → List ℕ → Result (ℕ × List ℕ) ℕ
number_within w low high bytes = do
  n ← whole bytes (number_at w bytes)
  if nat_lt n.0 low then Err (length bytes) else if nat_lt high n.0 then Err (length bytes) else Ok n

-- a count from low to high, and that many bytes
unfoldable pub counted_at : Width → ℕ → ℕ → List ℕ → Result (List ℕ × List ℕ) ℕ
counted_at w low high bytes = do
  count ← number_within w low high bytes
  whole count.1 (bytes_at count.0 count.1)

-- a value that nothing follows: bytes after it are at fault
abbrev pub alone : {A : Type 0} → Result (A × List ℕ) ℕ → Result A ℕ
alone read = do
  x ← read
  if length x.1 == 0 then Ok x.0 else Err (length x.1)

-- the place of the fault in the input, from 0
abbrev pub placed : {A : Type 0} → List ℕ → Result A ℕ → Result A ℕ
placed input (Ok x) = Ok x
placed input (Err left) = Err (length input - left)

-- What a function answered, seen by view, is what reading gives, unless memory ran out.
abbrev pub Fails : {Y : Type 0} → ReadFault → Result Y ℕ → Type 0
Fails read_faults.NoMemory read = Unit {0}
Fails (read_faults.Left left) read = read ≡ Err left

abbrev pub Gives : {X Y : Type 0} → (X → Y) → Result X ReadFault → Result Y ℕ → Type 0
Gives view (Ok x) read = read ≡ Ok (view x)
Gives view (Err e) read = Fails e read

-- The same, where the fault is told by its place.
abbrev pub Refuses : {Y : Type 0} → CertFault → Result Y ℕ → Type 0
Refuses cert_faults.NoMemory read = Unit {0}
Refuses (cert_faults.Malformed place) read = read ≡ Err place

abbrev pub Answers : {X Y : Type 0} → (X → Y) → Result X CertFault → Result Y ℕ → Type 0
Answers view (Ok x) read = read ≡ Ok (view x)
Answers view (Err e) read = Refuses e read

-- the fault of an input of that many bytes, told by its place
abbrev pub fault_at : ℕ → ReadFault → CertFault
fault_at length read_faults.NoMemory = cert_faults.NoMemory
fault_at length (read_faults.Left left) = cert_faults.Malformed (length - left)

-- the place is in the input, and a number of four bytes
abbrev pub IsNear : ℕ → ReadFault → Type 0
IsNear length read_faults.NoMemory = Unit {0}
IsNear length (read_faults.Left left) = (left ≤ length) × (length < left + 2 ^ 32)
