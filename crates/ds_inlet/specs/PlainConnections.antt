-- A connection as the plain world has it, and that its calls act on that as the plain world's pieces do.
use Rattle.std.specs.Prelude.{◌≡◌, ℕ, ◌+◌, true, false, List, [], ◌∷◌, ◌++◌, length, map, Option, Some, None}
use Rattle.ds_label.specs.declared.rule.Rule.{Rule}
use Rattle.ds_cert.specs.declared.lane.LaneCert.{LaneCert}
use Rattle.ds_msg.specs.declared.message.Message.{Message}
use Rattle.ds_msg.specs.declared.local.LocalMessage.{LocalMessage}
use Rattle.ds_model.specs.World.{Conn, ConnLine, FrameLine, StaleLine, PassLine, DropLine, Passed}
use Rattle.ds_model.specs.ConnectionStep.{arrive, fresh_frame, stale_frame, delivery_after_reply, passed_of}
use Rattle.ds_inlet.specs.declared.offer.ConnEntry.{ConnEntry}
use Rattle.ds_inlet.specs.declared.offer.ConnEntry.TheVariants as entries
use Rattle.ds_inlet.specs.Hosts.{seen_failure}
use Rattle.ds_inlet.specs.OfferedFrames.{OfferedFrame}
use Rattle.ds_inlet.specs.Connections.{Connection, arrived_more, settled, passed_on, refused_by}

-- what is printed of an entry
abbrev pub line_of : ConnEntry → ConnLine
line_of (entries.Frame number count) = FrameLine number count
line_of (entries.Stale number) = StaleLine number
line_of (entries.Pass slot) = PassLine slot
line_of (entries.Drop rule slot) = DropLine rule slot

-- how many items of the stream were taken with an entry: a frame, or none
abbrev pub taken_by : ConnEntry → ℕ
taken_by (entries.Frame number count) = 1
taken_by (entries.Stale number) = 1
taken_by (entries.Pass slot) = 0
taken_by (entries.Drop rule slot) = 0

abbrev pub frames_of : List ConnEntry → ℕ
frames_of [] = 0
frames_of (entry ∷ later) = taken_by entry + frames_of later

abbrev pub hellos_of : Option LaneCert → ℕ
hellos_of None = 0
hellos_of (Some lane) = 1

-- How many items of its stream a connection took: the hello, and each frame that was settled. An offered one isn't taken yet.
abbrev pub taken_of : Connection → ℕ
taken_of k = hellos_of k.reader.lane + frames_of k.entries

-- The plain world's connection. Two things of it are not determined: the whole stream of the link, of which a part has
-- arrived, and what passed by the names of its categories, which the connection keeps over its host's numbers.
abbrev pub plain_conn : (link : List ℕ) → (passed : Option Passed) → Connection → Conn
plain_conn link passed k = record {
  link = link;
  count = length k.arrived;
  taken = taken_of k;
  hand = k.hand;
  passed = passed;
  failed = seen_failure k.reader.failure;
  lines = map line_of k.entries;
}

-- the next bytes of the link arrive
abbrev pub IsPlainArrival : Type 0
IsPlainArrival = (link piece later : List ℕ) (passed : Option Passed) (k : Connection) → link ≡ (k.arrived ++ piece) ++ later
    → plain_conn link passed (arrived_more piece k) ≡ arrive link (length piece) (plain_conn link passed k)

-- an offered frame is settled as fresh
abbrev pub IsPlainFresh : Type 0
IsPlainFresh = (link : List ℕ) (passed : Option Passed) (k : Connection) (o : OfferedFrame) → k.offered ≡ Some o
    → plain_conn link passed (settled true k) ≡ fresh_frame (plain_conn link passed k) o.number o.messages

-- and as stale
abbrev pub IsPlainStale : Type 0
IsPlainStale = (link : List ℕ) (passed : Option Passed) (k : Connection) (o : OfferedFrame) → k.offered ≡ Some o
    → plain_conn link passed (settled false k) ≡ stale_frame (plain_conn link passed k) o.number

-- the first message of the hand passes, as whichever message of the host's own
abbrev pub IsPlainPass : Type 0
IsPlainPass = (link : List ℕ) (before : Option Passed) (k : Connection) (lane : LaneCert) (first : Message) (rest : List Message) (message : LocalMessage) → k.hand ≡ first ∷ rest
    → plain_conn link (Some (passed_of lane first)) (passed_on message k) ≡ delivery_after_reply lane first rest None (plain_conn link before k)

-- and is dropped
abbrev pub IsPlainDrop : Type 0
IsPlainDrop = (link : List ℕ) (passed : Option Passed) (k : Connection) (lane : LaneCert) (first : Message) (rest : List Message) (rule : Rule) → k.hand ≡ first ∷ rest
    → plain_conn link passed (refused_by rule k) ≡ delivery_after_reply lane first rest (Some rule) (plain_conn link passed k)

-- the message that passed is handed out, and the connection is as the plain world's after a put
abbrev pub IsPlainHand : Type 0
IsPlainHand = (link : List ℕ) (passed : Option Passed) (k : Connection)
    → plain_conn link None (record k { passed = None }) ≡ record (plain_conn link passed k) { passed = None }

-- a message that is given back is the passed one, whichever the plain world has there
abbrev pub IsPlainReturn : Type 0
IsPlainReturn = (link : List ℕ) (passed : Option Passed) (k : Connection) (slot : ℕ) (message : LocalMessage)
    → plain_conn link passed (record k { passed = Some (slot, message) }) ≡ plain_conn link passed k
