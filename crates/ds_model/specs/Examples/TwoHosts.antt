-- A small world of two hosts: a message goes over a lane, by the canonical schedule, and is taken and printed. In
-- place of signatures and spelling stands a toy: a hello is one byte, a frame is its number, and each frame that is
-- read has the one message that there is.
use Rattle.std.specs.Prelude.{◌≡◌, ℕ, true, false, List, [], ◌∷◌, Option, Some, None, map, option_map, slice_get, replicate, codes}
use Rattle.ds_cert.specs.declared.address.Address.{Address}
use Rattle.ds_cert.specs.declared.lane.LaneCert.{LaneCert}
use Rattle.ds_msg.specs.declared.message.Message.{Message}
use Rattle.ds_script.specs.declared.op.Op.{Op}
use Rattle.ds_script.specs.declared.op.Op.TheVariants as ops
use Rattle.ds_script.specs.declared.note.Note.TheVariants as notes
use Rattle.ds_model.specs.Scheme.{Scheme, Item, Hello, Framed}
use Rattle.ds_model.specs.Plan.{HostSetup, Plan, OfLane, no_signing}
use Rattle.ds_model.specs.Desk.{Desk}
use Rattle.ds_model.specs.World.{Process, LaneLine, QueuedLine, FramedLine, FrameLine, PassLine, Host, World}
use Rattle.ds_model.specs.Step.{Event, Step, Frame, Arrive, Accept, Deliver, run}
use Rattle.ds_model.specs.Schedule.{changes, canonical}
use Rattle.ds_model.specs.Examples.OneHost.{empty_scheme, only_key, other_key, new_conn, notes_of}

-- the one message goes from the host with the other key to the host with the only key

-- the message
abbrev pub letter : Message
letter = record { to = only_key; slot = 1; label = []; own = []; clear = []; certs = []; payload = codes "x" }

-- the certificate of the lane
abbrev pub letter_lane : LaneCert
letter_lane = record { exporter = other_key; lane = 1; receiver = only_key; label = []; key = other_key; from = 0; until = 1; signature = [] }

-- the receiver's address certificate
abbrev pub an_address : Address
an_address = record { exporter = only_key; address = []; from = 0; until = 1; signature = [] }

-- a frame for each byte
abbrev pub toy_frames : List ℕ → List Item
toy_frames [] = []
toy_frames (number ∷ stream) = Framed number (letter ∷ []) ∷ toy_frames stream

-- a hello, and then frames
abbrev pub toy_items : List ℕ → List Item
toy_items [] = []
toy_items (hello ∷ stream) = Hello letter_lane ∷ toy_frames stream

-- every exporter has an address, and every key a leaf
abbrev pub toy_scheme : Scheme
toy_scheme = record empty_scheme {
  find = λ addresses moment key. Some an_address;
  has_leaf = λ signing leaf. true;
  has_lane_leaf = λ signing leaf. true;
  hello = λ lane. 255 ∷ [];
  frame = λ signing leaf messages. leaf ∷ [];
  items = λ key inlets stream. toy_items stream;
}

-- the plan: the first host receives, the second one sends

-- a process with a mailbox, and an inlet
abbrev pub receiver : HostSetup
receiver = record { key = only_key; silent = false; signing = no_signing; procs = 1; boxes = record { slot = 1; owner = 0; label = []; room = 4 } ∷ []; lanes = []; inlets = record { exporter = other_key; lane = 1 } ∷ [] }

-- a process, and a lane
abbrev pub sender : HostSetup
sender = record { key = other_key; silent = false; signing = no_signing; procs = 1; boxes = []; lanes = record { cert = letter_lane; signing = no_signing; room = 4 } ∷ []; inlets = [] }

-- both, and the lane's connection
abbrev pub two_hosts : Plan
two_hosts = record { hosts = receiver ∷ sender ∷ []; conn_plans = record { host = 0; source = OfLane 1 0 } ∷ [] }

-- the world at the start

-- an empty desk
abbrev pub new_desk : Desk
new_desk = record { moment = 0; rows = []; store = []; addresses = []; issued = []; leaf = 0 }

-- a process at its script's start
abbrev pub new_process : List Op → Process
new_process script = record { script = script; course = record { place = 0; registers = replicate 8 []; notes = [] }; label = []; own = []; clear = []; names = []; made = 0; hand = None }

-- the receiver takes the message and prints it
abbrev pub receiving : Host
receiving = record { desk = new_desk; procs = new_process (ops.Take 0 1 ∷ ops.Print 0 ∷ []) ∷ []; boxes = record { waiting = []; entries = [] } ∷ []; queues = []; workers = []; logs = []; inlets = None ∷ [] }

-- the sender sends it; its lane's stream is the hello
abbrev pub posting : Host
posting = record { desk = new_desk; procs = new_process (ops.Set 0 (codes "x") ∷ ops.Send 0 1 0 [] [] [] ∷ []) ∷ []; boxes = []; queues = [] ∷ []; workers = record { hand = []; leaf = 0; stream = 255 ∷ [] } ∷ []; logs = [] ∷ []; inlets = [] }

-- the world at the start
abbrev pub before_letter : World
before_letter = record { hosts = receiving ∷ posting ∷ []; conns = new_conn ∷ [] }

-- Three rounds carry the letter, and in two more it is taken and printed.
abbrev pub letter_events : List Event
letter_events =
    Step 1 0 ∷ Arrive 0 1 ∷ Accept 0
    ∷ Step 1 0
    ∷ Step 1 0 ∷ Frame 1 0 ∷ Frame 1 0 ∷ Arrive 0 1 ∷ Accept 0 ∷ Deliver 0 ∷ Deliver 0
    ∷ Step 0 0
    ∷ Step 0 0
    ∷ []

-- the world at the end
abbrev pub after_letter : World
after_letter = run toy_scheme two_hosts before_letter letter_events

-- what is printed of the sender's lane
abbrev pub logs_of : World → Option (List (List LaneLine))
logs_of w = option_map (λ x. x.logs) (slice_get w.hosts 1)

-- the schedule, what the receiver noted, and what is printed of the lane and of the connection
abbrev pub IsCarried : Type 0
IsCarried = (canonical (changes toy_scheme two_hosts) toy_scheme two_hosts 50 before_letter ≡ letter_events)
    × (notes_of after_letter ≡ Some (notes.Took 1 1 true ∷ notes.Print (codes "x") ∷ []))
    × (logs_of after_letter ≡ Some ((QueuedLine (record { sender = 0; message = letter }) ∷ FramedLine 0 1 ∷ []) ∷ []))
    × (map (λ k. k.lines) after_letter.conns ≡ (FrameLine 0 1 ∷ PassLine 1 ∷ []) ∷ [])
