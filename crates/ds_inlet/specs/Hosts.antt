-- What a host reads of a stream: the hello and the frames that it carries, as far as the host has an inlet for them.
use Rattle.std.specs.Prelude.{ℕ, ◌+◌, ◌==◌, ◌&&◌, List, [], ◌∷◌, ◌++◌, length, Option, Some, None, Result, Ok, Err, position, if◌then◌else◌}
use Rattle.ds_label.specs.declared.category.PubKey.{PubKey}
use Rattle.ds_cert.specs.declared.lane.LaneCert.{LaneCert}
use Rattle.ds_cert.specs.Fields.{◌>>=◌}
use Rattle.ds_msg.specs.declared.message.Message.{Message}
use Rattle.ds_msg.specs.Reading.{read_message}
use Rattle.ds_frame.specs.declared.cause.Cause.TheVariants as causes
use Rattle.ds_frame.specs.declared.item.Item.{Item}
use Rattle.ds_frame.specs.declared.item.Item.TheVariants as items
use Rattle.ds_frame.specs.declared.item.Failure.{Failure}
use Rattle.ds_frame.specs.Causes.{cause_number}
use Rattle.ds_frame.specs.Fields.{ReadFault, Broken}
use Rattle.ds_frame.specs.Checks.{read_item}
use Rattle.ds_frame.specs.Ranges.{BodiesRange}
use Rattle.ds_frame.specs.Reader.{Reading}
use Rattle.ds_frame.specs.Streams.{stream_by}
use Rattle.ds_model.specs.Keys.{same_key}
use Rattle.ds_model.specs.Scheme.{InletName, Item as Seen, Hello, Framed, Failure as SeenFailure}

-- the inlet for a lane
abbrev pub inlet_at : List InletName → LaneCert → Option ℕ
inlet_at inlets lane = position (λ i. same_key i.exporter lane.exporter && (i.lane == lane.lane)) inlets

-- there is such an inlet
abbrev pub declared_lane : LaneCert → Option ℕ → Result LaneCert ReadFault
declared_lane lane (Some inlet) = Ok lane
declared_lane lane None = Err (Broken causes.NoInlet 6)

-- A hello's lane leads to this host, which has an inlet for it. The certificate stands six bytes behind the hello's first.
abbrev pub admitted : PubKey → List InletName → LaneCert → Result LaneCert ReadFault
admitted here inlets lane = if same_key lane.receiver here then declared_lane lane (inlet_at inlets lane) else Err (Broken causes.HelloReceiver 6)

-- the message that these bytes spell; they stand at that place
abbrev pub message_or : (place : ℕ) → Result Message ℕ → Result Message ReadFault
message_or place (Ok message) = Ok message
message_or place (Err fault) = Err (Broken causes.Body place)

-- The messages that these bytes spell, or the place of the first ones that spell none. The first one's count stands at that
-- place, and its bytes four behind.
abbrev pub messages_from : (place : ℕ) → List (List ℕ) → Result (List Message) ReadFault
messages_from place [] = Ok []
messages_from place (bytes ∷ later) = do
  message ← message_or (place + 4) (read_message bytes)
  messages ← messages_from (place + 4 + length bytes) later
  Ok (message ∷ messages)

-- a frame's messages are in range
abbrev pub IsItemInRange : Item → Type 0
IsItemInRange (items.Hello lane) = Unit {0}
IsItemInRange (items.Frame frame) = BodiesRange frame.bodies

-- What the host sees of an item. A frame's body stands 11 bytes behind the frame's first.
unfoldable pub host_item : PubKey → List InletName → Item → Result Seen ReadFault
host_item here inlets (items.Hello lane) = do
  l ← admitted here inlets lane
  Ok (Hello l)
host_item here inlets (items.Frame frame) = do
  messages ← messages_from 11 frame.bodies
  Ok (Framed frame.number messages)

-- what the host sees of the item at the front, and what follows it
unfoldable pub seen_reading : PubKey → List InletName → Option LaneCert → List ℕ → Result (Seen × List ℕ) ReadFault
seen_reading here inlets lane bytes = do
  x ← read_item lane bytes
  seen ← host_item here inlets x.0
  Ok (seen, x.1)

-- an item for this host, and what follows it
unfoldable pub host_reading : PubKey → List InletName → Reading
host_reading here inlets lane bytes = do
  x ← read_item lane bytes
  seen ← host_item here inlets x.0
  Ok x

-- what was read, or nothing
abbrev pub seen_or_none : Result Seen ReadFault → List Seen
seen_or_none (Ok seen) = seen ∷ []
seen_or_none (Err stop) = []

-- all that the host sees of items
abbrev pub seen_of_items : PubKey → List InletName → List Item → List Seen
seen_of_items here inlets [] = []
seen_of_items here inlets (item ∷ later) = seen_or_none (host_item here inlets item) ++ seen_of_items here inlets later

-- why the stream is broken: the cause's number, and the place
abbrev pub seen_failure : Option Failure → Option SeenFailure
seen_failure None = None
seen_failure (Some failure) = Some (record { cause = cause_number failure.cause; place = failure.place })

-- what a host with this key and these inlets reads of a stream, up to the first fault
abbrev pub items_of : PubKey → List InletName → List ℕ → List Seen
items_of here inlets stream = seen_of_items here inlets (stream_by (host_reading here inlets) stream).items

-- the fault, where the rest can't be read on
abbrev pub ending_of : PubKey → List InletName → List ℕ → Option SeenFailure
ending_of here inlets stream = seen_failure (stream_by (host_reading here inlets) stream).ending
