-- What is asked of a whole hello and of a whole frame, in this order.
use Rattle.std.specs.Prelude.{ℕ, ◌+◌, Bool, List, length, take, Option, Some, None, is_none, bytes_eq, Result, Ok, Err, if◌then◌else◌}
use Rattle.std.specs.Int.{w32, to_be_bytes}
use Rattle.lms_sig.specs.Good.{first_bad}
use Rattle.ds_label.specs.declared.category.PubKey.{PubKey}
use Rattle.ds_cert.specs.declared.lane.LaneCert.{LaneCert}
use Rattle.ds_cert.specs.Fields.{◌>>=◌}
use Rattle.ds_cert.specs.Reading.{read_lane_cert}
use Rattle.ds_cert.specs.Spelling.{signed_part_of_lane_cert}
use Rattle.ds_frame.specs.declared.cause.Cause.TheVariants as causes
use Rattle.ds_frame.specs.declared.item.Frame.{Frame}
use Rattle.ds_frame.specs.declared.item.Item.{Item}
use Rattle.ds_frame.specs.declared.item.Item.TheVariants as items
use Rattle.ds_frame.specs.Spelling.{OuterFrame, signed_fields}
use Rattle.ds_frame.specs.Fields.{ReadFault, Broken}
use Rattle.ds_frame.specs.Outer.{read_outer_hello, read_outer_frame}
use Rattle.ds_frame.specs.Bodies.{split}

-- whether nothing is wrong with a signature of a message under a key
abbrev pub is_good : (key message signature : List ℕ) → Bool
is_good key message signature = is_none (first_bad key message signature)

abbrev pub is_good_lane_cert : LaneCert → Bool
is_good_lane_cert l = is_good l.exporter.0 (signed_part_of_lane_cert l) l.signature

-- the bytes spell a lane certificate, and its signature is good
abbrev pub checked_cert : Result LaneCert ℕ → Result LaneCert ReadFault
checked_cert (Err place) = Err (Broken causes.HelloCert (6 + place))
checked_cert (Ok lane) = if is_good_lane_cert lane then Ok lane else Err (Broken causes.HelloSignature 6)

-- a frame's number stands in front of its signature too
abbrev pub begins_with : (number : ℕ) → (signature : List ℕ) → Bool
begins_with number signature = bytes_eq (take 4 signature) (to_be_bytes w32 number)

-- The counts split the body into that many messages, the signature begins with the frame's number, and it is good under the
-- key. The body stands 11 bytes behind the frame's first, the signature two bytes behind the body.
abbrev pub checked_bodies : (key : PubKey) → OuterFrame → Option (List (List ℕ)) → Result Frame ReadFault
checked_bodies key o None = Err (Broken causes.Split 11)
checked_bodies key o (Some bodies) =
    if begins_with o.number o.signature then
    if is_good key.0 (signed_fields o.number o.messages o.body) o.signature then Ok (record { number = o.number; bodies = bodies })
    else Err (Broken causes.Signature (13 + length o.body))
    else Err (Broken causes.Leaf (13 + length o.body))

-- a hello
unfoldable pub read_hello : List ℕ → Result (LaneCert × List ℕ) ReadFault
read_hello bytes = do
  cert ← read_outer_hello bytes
  lane ← checked_cert (read_lane_cert cert.0)
  Ok (lane, cert.1)

-- a frame under the lane's key
unfoldable pub read_frame : (key : PubKey) → List ℕ → Result (Frame × List ℕ) ReadFault
read_frame key bytes = do
  o ← read_outer_frame bytes
  frame ← checked_bodies key o.0 (split o.0.messages o.0.body)
  Ok (frame, o.1)

-- a hello first, and frames once its lane certificate is known
unfoldable pub read_item : Option LaneCert → List ℕ → Result (Item × List ℕ) ReadFault
read_item None bytes = do
  hello ← read_hello bytes
  Ok (items.Hello hello.0, hello.1)
read_item (Some lane) bytes = do
  frame ← read_frame lane.key bytes
  Ok (items.Frame frame.0, frame.1)
