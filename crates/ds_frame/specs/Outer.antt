-- The outer spelling of a hello and of a frame, read: fields and their ranges, the certificate and the body being any bytes.
-- Each field's offset is that of its first byte in the hello or frame.
use Rattle.std.specs.Prelude.{ℕ, ◌+◌, List, Result, Ok}
use Rattle.std.specs.Int.{w8, w16, w32}
use Rattle.ds_wire.specs.Fields.{number_at, bytes_at}
use Rattle.ds_cert.specs.Fields.{◌>>=◌}
use Rattle.ds_frame.specs.declared.cause.Cause.TheVariants as causes
use Rattle.ds_frame.specs.Spelling.{OuterFrame}
use Rattle.ds_frame.specs.Fields.{ReadFault, field, number_from}

-- the bytes of the certificate
unfoldable pub read_outer_hello : List ℕ → Result (List ℕ × List ℕ) ReadFault
read_outer_hello bytes = do
  d ← number_from w8 0x44 0x44 causes.Magic 0 bytes
  s ← number_from w8 0x53 0x53 causes.Magic 1 d.1
  x ← number_from w8 0x58 0x58 causes.Magic 2 s.1
  one ← number_from w8 0x31 0x31 causes.Magic 3 x.1
  count ← number_from w16 1 6860 causes.HelloCount 4 one.1
  field (bytes_at count.0 count.1)

unfoldable pub read_outer_frame : List ℕ → Result (OuterFrame × List ℕ) ReadFault
read_outer_frame bytes = do
  tag ← number_from w8 4 4 causes.Tag 0 bytes
  number ← field (number_at w32 tag.1)
  messages ← number_from w16 1 16 causes.Count 5 number.1
  size ← number_from w32 1 1155728 causes.Length 7 messages.1
  body ← field (bytes_at size.0 size.1)
  count ← number_from w16 1 2508 causes.SignatureCount (11 + size.0) body.1
  signature ← field (bytes_at count.0 count.1)
  Ok (record { number = number.0; messages = messages.0; body = body.0; signature = signature.0 }, signature.1)
