-- What holds of the definitions alone.
use Rattle.std.specs.Prelude.{◌≡◌, ◌<◌, ◌^◌, ℕ, List, [], ◌∷◌, ◌++◌, take, map, Option, Some, None, Result, Ok, Err}
use Rattle.std.specs.List.{flat_map, AllByRecursion}
use Rattle.std.specs.Int.{w32, to_be_bytes}
use Rattle.lms_sig.specs.Good.{IsGood}
use Rattle.ds_label.specs.declared.category.PubKey.{PubKey}
use Rattle.ds_cert.specs.declared.lane.LaneCert.{LaneCert}
use Rattle.ds_cert.specs.Ranges.{LaneCertFits}
use Rattle.ds_cert.specs.Spelling.{signed_part_of_lane_cert}
use Rattle.ds_frame.specs.declared.item.Frame.{Frame}
use Rattle.ds_frame.specs.declared.item.Item.{Item}
use Rattle.ds_frame.specs.declared.item.Item.TheVariants as items
use Rattle.ds_frame.specs.declared.item.ReadEnd.{ReadEnd}
use Rattle.ds_frame.specs.declared.item.ReadEnd.TheVariants as ends
use Rattle.ds_frame.specs.Fields.{ReadFault, Open}
use Rattle.ds_frame.specs.Ranges.{BodiesRange, FrameSignatureFits}
use Rattle.ds_frame.specs.Reader.{Reader, Reading, new_reader, fed, next_by}
use Rattle.ds_frame.specs.Spelling.{spelling_of_hello, spelling_of_frame, part_of_frame}
use Rattle.ds_frame.specs.Streams.{Stream, stream_by}

-- ---- what stands in front where an item is read

pub record IsHello (lane : LaneCert) : Type 0 where
  pub fits : LaneCertFits lane
  pub good : IsGood lane.exporter.0 (signed_part_of_lane_cert lane) lane.signature

-- a frame with that signature, under that key
pub record IsFrame (key : PubKey) (frame : Frame) (signature : List ℕ) : Type 0 where
  pub number : frame.number < 2 ^ 32
  pub bodies : BodiesRange frame.bodies
  pub size : FrameSignatureFits signature
  -- the signature's leaf is the frame's number
  pub leaf : take 4 signature ≡ to_be_bytes w32 frame.number
  pub good : IsGood key.0 (part_of_frame frame.number frame.bodies) signature

pub record StartsWithHello (lane : LaneCert) (bytes rest : List ℕ) : Type 0 where
  pub hello : IsHello lane
  pub parts : bytes ≡ spelling_of_hello lane ++ rest

pub record StartsWithFrame (key : PubKey) (frame : Frame) (bytes rest : List ℕ) : Type 0 where
  pub signature : List ℕ
  pub signed : IsFrame key frame signature
  pub parts : bytes ≡ spelling_of_frame frame.number frame.bodies signature ++ rest

-- The bytes are an item's spelling and the rest: a hello where there was none yet, else a frame under the lane's key.
abbrev pub StartsWith : Option LaneCert → Item → (bytes rest : List ℕ) → Type 0
StartsWith None (items.Hello lane) bytes rest = StartsWithHello lane bytes rest
StartsWith None (items.Frame frame) bytes rest = ⊥
StartsWith (Some lane) (items.Hello other) bytes rest = ⊥
StartsWith (Some lane) (items.Frame frame) bytes rest = StartsWithFrame lane.key frame bytes rest

-- ---- one spelling a value, and none a proper prefix of another

-- a frame and a signature that have a spelling
pub record SignedFrameFits (f : Frame × List ℕ) : Type 0 where
  pub number : f.0.number < 2 ^ 32
  pub bodies : BodiesRange f.0.bodies
  pub signature : FrameSignatureFits f.1

abbrev pub spelling_of_signed_frame : Frame × List ℕ → List ℕ
spelling_of_signed_frame f = spelling_of_frame f.0.number f.0.bodies f.1

-- ---- proper prefixes

-- a proper prefix of a spelling is open
abbrev pub IsOpenBefore : {A : Type 0} → (A → Type 0) → (A → List ℕ) → (List ℕ → Result (A × List ℕ) ReadFault) → Type 0
IsOpenBefore {A} Fits spelling reading = (x : A) (bytes missing : List ℕ) → Fits x → spelling x ≡ bytes ++ missing → (missing ≡ [] → ⊥) → reading bytes ≡ Err Open

-- ---- whole streams

-- frames with their signatures, one after the other
abbrev pub spelling_of_frames : List (Frame × List ℕ) → List ℕ
spelling_of_frames frames = flat_map (λ f. spelling_of_frame f.0.number f.0.bodies f.1) frames

-- what was written is what the stream carries, and it isn't broken
abbrev pub IsStreamOf : (List ℕ → Stream) → Type 0
IsStreamOf reading = (lane : LaneCert) (frames : List (Frame × List ℕ)) → IsHello lane → AllByRecursion (λ f. IsFrame lane.key f.0 f.1) frames
    → reading (spelling_of_hello lane ++ spelling_of_frames frames) ≡ record { items = items.Hello lane ∷ map (λ f. items.Frame f.0) frames; ending = None }

-- ---- any calls, in any order

pub data Call : Type 0 where
  Feed : (piece : List ℕ) → Call
  Next : Call

-- the items that were handed out so far, and the reader
pub record Session : Type 0 where
  pub handed : List Item
  pub reader : Reader

abbrev pub new_session : Session
new_session = record { handed = []; reader = new_reader }

abbrev pub handed_by : Result Item ReadEnd → List Item
handed_by (Ok item) = item ∷ []
handed_by (Err e) = []

abbrev pub called : Reading → Call → Session → Session
called reading (Feed piece) s = record s { reader = fed piece s.reader }
called reading Next s = record { handed = s.handed ++ handed_by (next_by reading s.reader).answer; reader = (next_by reading s.reader).reader }

abbrev pub after : Reading → List Call → Session → Session
after reading [] s = s
after reading (call ∷ calls) s = after reading calls (called reading call s)

-- all bytes that the calls fed
abbrev pub fed_by : List Call → List ℕ
fed_by [] = []
fed_by (Feed piece ∷ calls) = piece ++ fed_by calls
fed_by (Next ∷ calls) = fed_by calls

-- What a call of next answers is what the stream carries next, behind the items that were handed out: an item, or nothing yet, or
-- its ending.
abbrev pub Continues : Stream → (handed : List Item) → Result Item ReadEnd → Type 0
Continues stream handed (Ok item) = (later : List Item) × (stream.items ≡ handed ++ item ∷ later)
Continues stream handed (Err ends.NotYet) = (stream.items ≡ handed) × (stream.ending ≡ None)
Continues stream handed (Err (ends.BadFrame cause place)) = (stream.items ≡ handed) × (stream.ending ≡ Some (record { cause = cause; place = place }))
Continues stream handed (Err ends.NoMemory) = ⊥

-- After any feeds and nexts, what was handed out are the first items of the whole stream that was fed, in their order, and the
-- next call continues them. A call that memory ran out in is none.
abbrev pub IsReadByPieces : Reading → Type 0
IsReadByPieces reading = (calls : List Call) → Continues (stream_by reading (fed_by calls)) (after reading calls new_session).handed (next_by reading (after reading calls new_session).reader).answer
