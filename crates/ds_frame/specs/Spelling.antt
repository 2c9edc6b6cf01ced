-- The one spelling of a hello and of a frame, as lists of bytes. Numbers are big-endian.
use Rattle.std.specs.Prelude.{ℕ, List, ◌++◌, length}
use Rattle.std.specs.List.{flat_map}
use Rattle.std.specs.Int.{w8, w16, w32, to_be_bytes}
use Rattle.ds_cert.specs.declared.lane.LaneCert.{LaneCert}
use Rattle.ds_cert.specs.Spelling.{spelling_of_lane_cert, spelling_of_signature}

-- `DSX1`, a count, and that many bytes
unfoldable pub outer_spelling_of_hello : List ℕ → List ℕ
outer_spelling_of_hello cert =
    to_be_bytes w8 0x44
    ++ (to_be_bytes w8 0x53
    ++ (to_be_bytes w8 0x58
    ++ (to_be_bytes w8 0x31
    ++ (to_be_bytes w16 (length cert)
    ++ cert))))

-- a frame's fields, the body being any bytes
pub record OuterFrame : Type 0 where
  pub number : ℕ
  pub messages : ℕ
  pub body : List ℕ
  pub signature : List ℕ

-- what the signature is over: all that stands before the signature's count
unfoldable pub signed_fields : (number messages : ℕ) → (body : List ℕ) → List ℕ
signed_fields number messages body =
    to_be_bytes w8 4
    ++ (to_be_bytes w32 number
    ++ (to_be_bytes w16 messages
    ++ (to_be_bytes w32 (length body)
    ++ body)))

unfoldable pub outer_spelling_of_frame : OuterFrame → List ℕ
outer_spelling_of_frame o = signed_fields o.number o.messages o.body ++ spelling_of_signature o.signature

-- a count and that many bytes
unfoldable pub spelling_of_body : List ℕ → List ℕ
spelling_of_body bytes = to_be_bytes w32 (length bytes) ++ bytes

abbrev pub spelling_of_bodies : List (List ℕ) → List ℕ
spelling_of_bodies bodies = flat_map spelling_of_body bodies

abbrev pub spelling_of_hello : LaneCert → List ℕ
spelling_of_hello lane = outer_spelling_of_hello (spelling_of_lane_cert lane)

-- the part of a frame that is signed
abbrev pub part_of_frame : (number : ℕ) → (bodies : List (List ℕ)) → List ℕ
part_of_frame number bodies = signed_fields number (length bodies) (spelling_of_bodies bodies)

abbrev pub spelling_of_frame : (number : ℕ) → (bodies : List (List ℕ)) → (signature : List ℕ) → List ℕ
spelling_of_frame number bodies signature = part_of_frame number bodies ++ spelling_of_signature signature
