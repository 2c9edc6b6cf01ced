-- Small worlds, in which the definitions compute.
use Rattle.std.specs.Prelude.{◌≡◌, ℕ, zero, suc, false, List, [], ◌∷◌, Option, Some, None, option_map, slice_get, replicate, codes}
use Rattle.ds_label.specs.declared.category.Kind.TheVariants.{Secrecy}
use Rattle.ds_label.specs.declared.category.PubKey.{PubKey}
use Rattle.ds_label.specs.declared.category.Category.{Category}
use Rattle.ds_label.specs.declared.rule.Rule.TheVariants.{NotFlow}
use Rattle.ds_cert.specs.declared.lane.LaneCert.{LaneCert}
use Rattle.ds_msg.specs.declared.message.Message.{Message}
use Rattle.ds_script.specs.declared.op.Op.{Op}
use Rattle.ds_script.specs.declared.op.Op.TheVariants as ops
use Rattle.ds_script.specs.declared.note.Note.{Note}
use Rattle.ds_script.specs.declared.note.Note.TheVariants as notes
use Rattle.ds_model.specs.Lists.{at}
use Rattle.ds_model.specs.Scheme.{Scheme, Hello, Framed}
use Rattle.ds_model.specs.Plan.{HostSetup, BoxPlan, Plan, Link, no_signing}
use Rattle.ds_model.specs.Mailbox.{PutIn, FoundFull}
use Rattle.ds_model.specs.World.{Mail, Mailbox, Conn, ConnLine, FrameLine, StaleLine, PassLine, Host, World}
use Rattle.ds_model.specs.Step.{Event, Step, Accept, Deliver, run}
use Rattle.ds_model.specs.Views.{proc_at}
use Rattle.ds_model.specs.Schedule.{changes, canonical}

-- a scheme in which nothing is signed, held or read
abbrev pub empty_scheme : Scheme
empty_scheme = record {
  good = λ d. false;
  good_address = λ a. false;
  good_lane = λ l. false;
  holds = λ certs moment c key. false;
  chain = λ certs moment c key. [];
  find = λ addresses moment key. None;
  delegation_signature = λ signing leaf by c to from until. [];
  spelling = λ d. [];
  read_cert = λ bytes. None;
  has_leaf = λ signing leaf. false;
  has_lane_leaf = λ signing leaf. false;
  hello = λ lane. [];
  frame = λ signing leaf messages. [];
  items = λ key inlets stream. [];
  ending = λ key inlets stream. None;
  frame_signed = λ key number messages stream. false;
}

-- one host with one process and a mailbox of its own, slot 1, without a label, for one message

-- its key
abbrev pub only_key : PubKey
only_key = record { 0 = 97 ∷ [] }

-- its mailbox
abbrev pub only_box : BoxPlan
only_box = record { slot = 1; owner = 0; label = []; room = 1 }

-- the host
abbrev pub only_host : HostSetup
only_host = record { key = only_key; silent = false; signing = no_signing; procs = 1; boxes = only_box ∷ []; lanes = []; inlets = [] }

-- the plan of that host alone
abbrev pub one_host : Plan
one_host = record { hosts = only_host ∷ []; conn_plans = [] }

-- the world in which the process has this script, label and ownership
abbrev pub one_process : List Op → (label own : List Category) → World
one_process script label own = record {
  hosts = record {
    desk = record { moment = 0; rows = []; store = []; addresses = []; issued = []; leaf = 0 };
    procs = record { script = script; course = record { place = 0; registers = replicate 8 []; notes = [] }; label = label; own = own; clear = []; names = []; made = 1; hand = None } ∷ [];
    boxes = record { waiting = []; entries = [] } ∷ [];
    queues = [];
    workers = [];
    logs = [];
    inlets = [];
  } ∷ [];
  conns = [];
}

-- the world after so many steps of the process
abbrev pub steps : ℕ → List Event
steps zero = []
steps (suc n) = Step 0 0 ∷ steps n

-- the world after so many steps
abbrev pub after_steps : ℕ → World → World
after_steps n w = run empty_scheme one_host w (steps n)

-- what the process has noted
abbrev pub notes_of : World → Option (List Note)
notes_of w = option_map (λ x. x.course.notes) (proc_at w 0 0)

-- where it is in its script
abbrev pub place_of : World → Option ℕ
place_of w = option_map (λ x. x.course.place) (proc_at w 0 0)

-- the mailbox of a host that may not be there
abbrev pub box_in : Option Host → Option Mailbox
box_in None = None
box_in (Some x) = slice_get x.boxes 0

-- A process prints: it sets a register, prints it, and has ended.
abbrev pub printing : World
printing = one_process (ops.Set 0 (codes "hello") ∷ ops.Print 0 ∷ []) [] []

-- its note and place, and that a third step changes nothing
abbrev pub Prints : Type 0
Prints = (notes_of (after_steps 2 printing) ≡ Some (notes.Print (codes "hello") ∷ [])) × (place_of (after_steps 2 printing) ≡ Some 2) × (after_steps 3 printing ≡ after_steps 2 printing)

-- The process has a secret in its label and sends to the mailbox without it.
abbrev pub a_secret : Category
a_secret = record { creator = only_key; kind = Secrecy; number = 0 }

-- the world in which the process owns this
abbrev pub sending : List Category → World
sending own = one_process (ops.Set 0 (codes "x") ∷ ops.Send 0 1 0 [] [] [] ∷ []) (a_secret ∷ []) own

-- Where it doesn't own the secret, the send is refused, and the mailbox stays empty.
abbrev pub IsRefused : Type 0
IsRefused = (notes_of (after_steps 2 (sending [])) ≡ Some (notes.Refused NotFlow ∷ []))
    × (box_in (slice_get (after_steps 2 (sending [])).hosts 0) ≡ Some (record { waiting = []; entries = [] }))

-- Where it owns the secret, the message goes into the mailbox: this is a release.
abbrev pub a_mail : Mail Category
a_mail = record { from = only_key; label = []; own = []; clear = []; payload = codes "x" }

-- the sender's note, and the mailbox
abbrev pub IsReleased : Type 0
IsReleased = (notes_of (after_steps 2 (sending (a_secret ∷ []))) ≡ Some (notes.Sent ∷ []))
    × (box_in (slice_get (after_steps 2 (sending (a_secret ∷ []))).hosts 0) ≡ Some (record { waiting = a_mail ∷ []; entries = PutIn a_mail ∷ [] }))

-- The canonical schedule of the process that prints is its two steps, and one of them where the budget is one.

-- for budgets of five and of one
abbrev pub IsScheduled : Type 0
IsScheduled = (canonical (changes empty_scheme one_host) empty_scheme one_host 5 printing ≡ Step 0 0 ∷ Step 0 0 ∷ [])
    × (canonical (changes empty_scheme one_host) empty_scheme one_host 1 printing ≡ Step 0 0 ∷ [])

-- Where the mailbox is full the sender notes the same, and the message stands in the mailbox's entries alone.
abbrev pub sending_twice : World
sending_twice = one_process (ops.Set 0 (codes "x") ∷ ops.Send 0 1 0 [] [] [] ∷ ops.Send 0 1 0 [] [] [] ∷ []) [] []

-- the sender's two notes, and the mailbox
abbrev pub IsFull : Type 0
IsFull = (notes_of (after_steps 3 sending_twice) ≡ Some (notes.Sent ∷ notes.Sent ∷ []))
    × (box_in (slice_get (after_steps 3 sending_twice).hosts 0) ≡ Some (record { waiting = a_mail ∷ []; entries = PutIn a_mail ∷ FoundFull a_mail ∷ [] }))

-- One inlet counts the frames of all connections that read the same hello: a frame that two of them read is fresh on
-- the first and stale on the second.
abbrev pub other_key : PubKey
other_key = record { 0 = 98 ∷ [] }

-- a lane of another exporter
abbrev pub a_lane : LaneCert
a_lane = record { exporter = other_key; lane = 1; receiver = only_key; label = []; key = other_key; from = 0; until = 1; signature = [] }

-- a message on it
abbrev pub a_message : Message
a_message = record { to = only_key; slot = 1; label = []; own = []; clear = []; certs = []; payload = codes "x" }

-- whatever stream is read, it is the hello of that lane and a frame with that message
abbrev pub reading_scheme : Scheme
reading_scheme = record empty_scheme { items = λ key inlets stream. Hello a_lane ∷ Framed 0 (a_message ∷ []) ∷ [] }

-- the host with an inlet for that lane
abbrev pub reading_host : HostSetup
reading_host = record only_host { inlets = record { exporter = other_key; lane = 1 } ∷ [] }

-- the plan of that host and two links to it
abbrev pub two_links : Plan
two_links = record { hosts = reading_host ∷ []; conn_plans = record { host = 0; source = Link } ∷ record { host = 0; source = Link } ∷ [] }

-- a connection on which nothing has come
abbrev pub new_conn : Conn
new_conn = record { link = []; count = 0; taken = 0; hand = []; passed = None; failed = None; lines = [] }

-- a host with an inlet that no frame has passed
abbrev pub with_inlet : Host → Host
with_inlet x = record x { inlets = None ∷ [] }

-- the world at the start
abbrev pub reading : World
reading = record { hosts = at 0 with_inlet (one_process [] [] []).hosts; conns = new_conn ∷ new_conn ∷ [] }

-- each connection accepts the hello and the frame, and the first one delivers the message in two steps
abbrev pub accepts : List Event
accepts = Accept 0 ∷ Accept 0 ∷ Deliver 0 ∷ Deliver 0 ∷ Accept 1 ∷ Accept 1 ∷ []

-- what is printed of connection k
abbrev pub lines_of : ℕ → World → Option (List ConnLine)
lines_of k w = option_map (λ y. y.lines) (slice_get w.conns k)

-- what is printed of both
abbrev pub IsStale : Type 0
IsStale = (lines_of 0 (run reading_scheme two_links reading accepts) ≡ Some (FrameLine 0 1 ∷ PassLine 1 ∷ []))
    × (lines_of 1 (run reading_scheme two_links reading accepts) ≡ Some (StaleLine 0 ∷ []))
