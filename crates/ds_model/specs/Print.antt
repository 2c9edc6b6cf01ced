-- How each thing is printed. A line's words stand with single spaces between; entries stand under their thing's line after
-- two spaces. Left open are the hosts' names, how certificates and categories are spelled, and the digest.
use Rattle.std.specs.Prelude.{ℕ, suc, ◌-◌, ◌^◌, ◌/◌, ◌%◌, ◌==◌, Bool, false, ◌&&◌, not, nat_le, List, [], ◌∷◌, ◌++◌, Option, Some, None, length, map, flat_map, get_or, position, codes, if◌then◌else◌}
use Rattle.std.specs.Fmt.{decimal, digit_glyph}
use Rattle.ds_label.specs.declared.category.Kind.{Kind}
use Rattle.ds_label.specs.declared.category.Kind.TheVariants.{Secrecy, Integrity}
use Rattle.ds_label.specs.declared.category.PubKey.{PubKey}
use Rattle.ds_label.specs.declared.category.Category.{Category}
use Rattle.ds_label.specs.declared.rule.Rule.{Rule}
use Rattle.ds_label.specs.declared.rule.Rule.TheVariants.{PeerNotTrusted, SenderNotTrusted, NotKnown}
use Rattle.ds_label.specs.Rules.{rule_name}
use Rattle.ds_cert.specs.declared.delegation.Delegation.{Delegation}
use Rattle.ds_cert.specs.declared.address.Address.{Address}
use Rattle.ds_script.specs.declared.note.Note.{Note}
use Rattle.ds_script.specs.declared.note.Note.TheVariants as notes
use Rattle.ds_model.specs.Keys.{same_key}
use Rattle.ds_model.specs.Scheme.{Failure}
use Rattle.ds_model.specs.Plan.{Plan, Source, Link, OfLane, host_plan, conn_plan, box_plan, lane_plan, inlet_name}
use Rattle.ds_model.specs.Mailbox.{BoxEntry, PutIn, FoundFull, TookOut, box_after}
use Rattle.ds_model.specs.Inlet.{Inlet}
use Rattle.ds_model.specs.Desk.{Desk}
use Rattle.ds_model.specs.World.{Process, Mail, Mailbox, Waiting, Queue, Worker, LaneLine, QueuedLine, FullLine, FramedLine, DroppedLine, Conn, ConnLine, FrameLine, StaleLine, PassLine, DropLine}
use Rattle.ds_model.specs.Text.{Format}

-- the hosts' names by their numbers, the spellings, and the digest of bytes as text (SHA-256 in hex)
pub record Printing : Type 0 where
  pub names : List (List ℕ)
  pub delegation : Delegation → List ℕ
  pub address : Address → List ℕ
  pub category : Category → List ℕ
  pub digest : List ℕ → List ℕ

-- WORDS AND LINES

-- words with single spaces between
abbrev pub spaced : List (List ℕ) → List ℕ
spaced [] = []
spaced (word ∷ []) = word
spaced (word ∷ next ∷ words) = word ++ 32 ∷ spaced (next ∷ words)

-- a line of words
abbrev pub line : List (List ℕ) → List ℕ
line words = spaced words ++ 10 ∷ []

-- an entry of words
abbrev pub entry : List (List ℕ) → List ℕ
entry words = 32 ∷ 32 ∷ line words

-- two lower-case hex digits
abbrev pub hex_byte : ℕ → List ℕ
hex_byte b = digit_glyph false (b / 16) ∷ digit_glyph false (b % 16) ∷ []

-- A byte from 0x20 to 0x7e but the backslash as it is, each other one as a backslash and two hex digits.
abbrev pub shown_byte : ℕ → List ℕ
shown_byte b = if nat_le 32 b && (nat_le b 126 && not (b == 92)) then b ∷ [] else 92 ∷ hex_byte b

-- bytes as text
abbrev pub shown : List ℕ → List ℕ
shown bytes = flat_map shown_byte bytes

-- words with dots between
abbrev pub dotted : List (List ℕ) → List ℕ
dotted [] = []
dotted (word ∷ []) = word
dotted (word ∷ next ∷ words) = word ++ 46 ∷ dotted (next ∷ words)

-- words with commas between
abbrev pub with_commas : List (List ℕ) → List ℕ
with_commas [] = []
with_commas (word ∷ []) = word
with_commas (word ∷ next ∷ words) = word ++ 44 ∷ with_commas (next ∷ words)

module _ (p : Printing) (plan : Plan) where
  -- NAMES

  -- the name of the host with this number
  abbrev pub host_name : ℕ → List ℕ
  host_name h = get_or p.names h []

  -- where the document has no such host, `~` and the key in hex
  abbrev pub name_at : PubKey → Option ℕ → List ℕ
  name_at key (Some h) = host_name h
  name_at key None = 126 ∷ flat_map hex_byte key.0

  -- the name of the host with this key
  abbrev pub key_name : PubKey → List ℕ
  key_name key = name_at key (position (λ x. same_key x.key key) plan.hosts)

  -- the letter of a kind
  abbrev pub kind_text : Kind → List ℕ
  kind_text Secrecy = codes "s"
  kind_text Integrity = codes "i"

  -- a category's name: its creator, the number's upper part and its lower part, and the kind
  abbrev pub category_text : Category → List ℕ
  category_text c = dotted (key_name c.creator ∷ decimal (c.number / 2 ^ 32) ∷ decimal (c.number % 2 ^ 32) ∷ kind_text c.kind ∷ [])

  -- a label's categories, in their order, in braces
  abbrev pub label_text : List Category → List ℕ
  label_text label = codes "{" ++ (with_commas (map category_text label) ++ codes "}")

  -- the category that a rule carries
  abbrev pub rule_category : Rule → List (List ℕ)
  rule_category (PeerNotTrusted c) = category_text c ∷ []
  rule_category (SenderNotTrusted c) = category_text c ∷ []
  rule_category (NotKnown c) = category_text c ∷ []
  rule_category _ = []

  -- a rule's name, and the category that it carries
  abbrev pub rule_text : Rule → List (List ℕ)
  rule_text rule = rule_name rule ∷ rule_category rule

  -- HOSTS

  -- what the digest of a desk is made of
  abbrev pub desk_bytes : Desk → List ℕ
  desk_bytes d = flat_map p.delegation d.store ++ (flat_map p.address d.addresses ++ flat_map p.category d.rows)

  -- `-` where all three lists are empty
  abbrev pub desk_text : Desk → List ℕ
  desk_text d = if (length d.store == 0) && ((length d.addresses == 0) && (length d.rows == 0)) then codes "-" else p.digest (desk_bytes d)

  -- a host's line
  abbrev pub host_line : ℕ → Desk → List ℕ
  host_line h d = line (codes "host" ∷ host_name h ∷ codes "moment" ∷ decimal d.moment ∷ codes "leaf" ∷ decimal d.leaf ∷ codes "store" ∷ decimal (length d.store) ∷ codes "addresses" ∷ decimal (length d.addresses) ∷ codes "maps" ∷ decimal (length d.rows) ∷ codes "desk" ∷ desk_text d ∷ [])

  -- PROCESSES

  -- where nothing was granted
  abbrev pub granted_text : Bool → List (List ℕ)
  granted_text granted = if granted then [] else codes "nogrant" ∷ []

  -- a note
  abbrev pub note_words : Note → List (List ℕ)
  note_words (notes.Print text) = codes "print" ∷ shown text ∷ []
  note_words notes.Sent = codes "sent" ∷ []
  note_words (notes.Took slot size granted) = codes "took" ∷ decimal slot ∷ decimal size ∷ granted_text granted
  note_words (notes.SetLabel label) = codes "label" ∷ label_text label ∷ []
  note_words (notes.NewCat c) = codes "newcat" ∷ category_text c ∷ []
  note_words (notes.Delegated c to) = codes "delegated" ∷ category_text c ∷ codes "to" ∷ host_name to ∷ []
  note_words (notes.Mapped c number) = codes "mapped" ∷ category_text c ∷ codes "as" ∷ decimal number ∷ []
  note_words notes.Imported = codes "imported" ∷ []
  note_words (notes.Refused rule) = codes "refused" ∷ rule_text rule

  -- a process, with its notes
  abbrev pub proc_section : (h q : ℕ) → Process → List ℕ
  proc_section h q x =
      line (codes "proc" ∷ dotted (host_name h ∷ decimal q ∷ []) ∷ codes "at" ∷ decimal x.course.place ∷ codes "label" ∷ label_text x.label ∷ codes "own" ∷ label_text x.own ∷ codes "clear" ∷ label_text x.clear ∷ [])
      ++ flat_map (λ n. entry (note_words n)) x.course.notes

  -- MAILBOXES

  -- the length of what was taken follows from what waited
  abbrev pub took_words : List (Mail Category) → List ℕ
  took_words [] = []
  took_words (m ∷ waiting) = entry (codes "took" ∷ decimal (length m.payload) ∷ [])

  -- an entry of a mailbox, by what waited before it
  abbrev pub box_line : BoxEntry (Mail Category) → List (Mail Category) → List ℕ
  box_line (PutIn m) waiting = entry (codes "put" ∷ key_name m.from ∷ shown m.payload ∷ [])
  box_line (FoundFull m) waiting = entry (codes "full" ∷ key_name m.from ∷ shown m.payload ∷ [])
  box_line TookOut waiting = took_words waiting

  -- entries, one after another
  abbrev pub box_lines : List (BoxEntry (Mail Category)) → List (Mail Category) → List ℕ
  box_lines [] waiting = []
  box_lines (e ∷ entries) waiting = box_line e waiting ++ box_lines entries (box_after e waiting)

  -- a mailbox, with its entries
  abbrev pub box_section : (h b : ℕ) → Mailbox → List ℕ
  box_section h b x =
      line (codes "box" ∷ dotted (host_name h ∷ decimal (box_plan (host_plan plan h) b).slot ∷ []) ∷ codes "label" ∷ label_text (box_plan (host_plan plan h) b).label ∷ codes "room" ∷ decimal (box_plan (host_plan plan h) b).room ∷ codes "waits" ∷ decimal (length x.waiting) ∷ [])
      ++ box_lines x.entries []

  -- LANES

  -- the sending process and the slot
  abbrev pub to_slot : Waiting → List ℕ
  to_slot w = dotted (decimal w.sender ∷ decimal w.message.slot ∷ [])

  -- an entry of a lane
  abbrev pub lane_words : LaneLine → List (List ℕ)
  lane_words (QueuedLine w) = codes "queued" ∷ to_slot w ∷ shown w.message.payload ∷ []
  lane_words (FullLine w) = codes "full" ∷ to_slot w ∷ shown w.message.payload ∷ []
  lane_words (FramedLine number count) = codes "framed" ∷ decimal number ∷ decimal count ∷ []
  lane_words (DroppedLine rule sender slot) = codes "dropped" ∷ (rule_text rule ++ dotted (decimal sender ∷ decimal slot ∷ []) ∷ [])

  -- a lane's name: its host's, and its number
  abbrev pub lane_name : (h l : ℕ) → List ℕ
  lane_name h l = dotted (host_name h ∷ decimal (suc l) ∷ [])

  -- a lane, with its entries
  abbrev pub lane_section_text : (h l : ℕ) → Queue → Worker → List LaneLine → List ℕ
  lane_section_text h l q e log =
      line (codes "lane" ∷ lane_name h l ∷ codes "to" ∷ key_name (lane_plan (host_plan plan h) l).cert.receiver ∷ codes "label" ∷ label_text (lane_plan (host_plan plan h) l).cert.label ∷ codes "room" ∷ decimal (lane_plan (host_plan plan h) l).room ∷ codes "waits" ∷ decimal (length q) ∷ codes "hand" ∷ decimal (length e.hand) ∷ codes "leaf" ∷ decimal e.leaf ∷ codes "bytes" ∷ decimal (length e.stream) ∷ codes "stream" ∷ p.digest e.stream ∷ [])
      ++ flat_map (λ x. entry (lane_words x)) log

  -- INLETS

  -- an inlet's last number
  abbrev pub last_text : Inlet → List ℕ
  last_text None = codes "none"
  last_text (Some number) = decimal number

  -- an inlet
  abbrev pub inlet_section : (h i : ℕ) → Inlet → List ℕ
  inlet_section h i x = line (codes "inlet" ∷ host_name h ∷ codes "from" ∷ dotted (key_name (inlet_name (host_plan plan h) i).exporter ∷ decimal (inlet_name (host_plan plan h) i).lane ∷ []) ∷ codes "last" ∷ last_text x ∷ [])

  -- CONNECTIONS

  -- where a connection comes from
  abbrev pub source_name : Source → List ℕ
  source_name Link = codes "link"
  source_name (OfLane h l) = lane_name h l

  -- the causes' names, from the first on
  abbrev pub cause_names : List (List ℕ)
  cause_names = codes "Magic" ∷ codes "HelloCount" ∷ codes "HelloCert" ∷ codes "HelloSignature" ∷ codes "HelloReceiver" ∷ codes "NoInlet" ∷ codes "Tag" ∷ codes "Count" ∷ codes "Length" ∷ codes "SignatureCount" ∷ codes "Split" ∷ codes "Leaf" ∷ codes "Signature" ∷ codes "Body" ∷ []

  -- open, or failed with the cause and the place
  abbrev pub state_words : Option Failure → List (List ℕ)
  state_words None = codes "open" ∷ []
  state_words (Some failure) = codes "failed" ∷ get_or cause_names (failure.cause - 1) [] ∷ decimal failure.place ∷ []

  -- an entry of a connection
  abbrev pub conn_words : ConnLine → List (List ℕ)
  conn_words (FrameLine number count) = codes "frame" ∷ decimal number ∷ decimal count ∷ []
  conn_words (StaleLine number) = codes "stale" ∷ decimal number ∷ []
  conn_words (PassLine slot) = codes "pass" ∷ decimal slot ∷ []
  conn_words (DropLine rule slot) = codes "drop" ∷ (rule_text rule ++ decimal slot ∷ [])

  -- a connection, with its entries
  abbrev pub conn_text : (k : ℕ) → Conn → List ℕ → List ℕ
  conn_text k x arrived =
      line (codes "conn" ∷ decimal k ∷ codes "from" ∷ source_name (conn_plan plan k).source ∷ codes "to" ∷ host_name (conn_plan plan k).host ∷ codes "arrived" ∷ decimal (length arrived) ∷ codes "stream" ∷ p.digest arrived ∷ codes "state" ∷ state_words x.failed)
      ++ flat_map (λ e. entry (conn_words e)) x.lines

  -- each thing so printed
  abbrev pub printed : Format
  printed = record {
    first = line (codes "dstar" ∷ codes "1" ∷ []);
    host = host_line;
    proc = proc_section;
    box = box_section;
    lane = lane_section_text;
    inlet = inlet_section;
    conn = conn_text;
  }
