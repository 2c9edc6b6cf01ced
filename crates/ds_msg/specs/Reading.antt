-- Reading messages. A reader answers a value and the bytes that follow it, or the first field at fault, told by how many
-- bytes there are from the first byte of that field on.
use Rattle.std.specs.Prelude.{ℕ, zero, suc, Bool, true, false, List, [], ◌∷◌, ◌++◌, length, Result, Ok, Err, if◌then◌else◌}
use Rattle.std.specs.Int.{w8, w16, w32}
use Rattle.ds_wire.specs.Fields.{number_at, bytes_at}
use Rattle.ds_cert.specs.declared.delegation.Delegation.{Delegation}
use Rattle.ds_cert.specs.Fields.{◌>>=◌, whole, number_within, counted_at, alone, placed}
use Rattle.ds_cert.specs.Reading.{key_at, label_at, read_delegation}
use Rattle.ds_msg.specs.declared.message.Message.{Message}
use Rattle.ds_msg.specs.Ranges.{is_among}

-- a number of four bytes
abbrev pub slot_at : List ℕ → Result (ℕ × List ℕ) ℕ
slot_at bytes = whole bytes (number_at w32 bytes)

abbrev pub is_read : Result Delegation ℕ → Bool
is_read (Ok d) = true
is_read (Err place) = false

-- whether bytes are the spelling of a delegation that isn't among those before
abbrev pub is_new_delegation : List (List ℕ) → List ℕ → Bool
is_new_delegation before bytes = if is_among bytes before then false else is_read (read_delegation bytes)

-- a count and that many bytes, which spell a delegation that isn't among those before
unfoldable pub cert_at : List (List ℕ) → List ℕ → Result (List ℕ × List ℕ) ℕ
cert_at before bytes = do
  count ← number_within w16 1 2704 bytes
  cert ← whole count.1 (bytes_at count.0 count.1)
  if is_new_delegation before cert.0 then Ok cert else Err (length count.1)

-- those before, and that many more
unfoldable pub more_certs_at : ℕ → List (List ℕ) → List ℕ → Result (List (List ℕ) × List ℕ) ℕ
more_certs_at zero before bytes = Ok (before, bytes)
more_certs_at (suc n) before bytes = do
  cert ← cert_at before bytes
  more_certs_at n (before ++ cert.0 ∷ []) cert.1

unfoldable pub certs_at : List ℕ → Result (List (List ℕ) × List ℕ) ℕ
certs_at bytes = do
  count ← number_within w8 0 16 bytes
  more_certs_at count.0 [] count.1

abbrev pub payload_at : List ℕ → Result (List ℕ × List ℕ) ℕ
payload_at bytes = counted_at w32 0 16384 bytes

unfoldable pub message_at : List ℕ → Result (Message × List ℕ) ℕ
message_at bytes = do
  tag ← number_within w8 6 6 bytes
  to ← key_at tag.1
  slot ← slot_at to.1
  label ← label_at slot.1
  own ← label_at label.1
  clear ← label_at own.1
  certs ← certs_at clear.1
  payload ← payload_at certs.1
  Ok (record { to = to.0; slot = slot.0; label = label.0; own = own.0; clear = clear.0; certs = certs.0; payload = payload.0 }, payload.1)

-- What a whole input is, or the place of the first fault.
unfoldable pub read_message : List ℕ → Result Message ℕ
read_message input = placed input (alone (message_at input))
