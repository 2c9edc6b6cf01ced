-- Two runs over a network that meet the premises of the law: two trusted hosts with a high lane between them, a host that
-- isn't trusted, to which a low lane leads, and a link to a trusted host on which an outsider writes. In place of signatures
-- and spelling stands a toy: a hello is one byte, and a frame is its number and the byte of its message.
use Rattle.std.specs.Prelude.{◌≡◌, ℕ, Bool, true, false, ◌&&◌, ◌||◌, ◌==◌, List, [], ◌∷◌, ◌++◌, Option, Some, None, option_map, replicate, if◌then◌else◌}
use Rattle.std.specs.List.{list_any}
use Rattle.ds_label.specs.declared.category.Kind.TheVariants.{Secrecy}
use Rattle.ds_label.specs.declared.category.PubKey.{PubKey}
use Rattle.ds_label.specs.declared.category.Category.{Category}
use Rattle.ds_label.specs.Names.{same_category}
use Rattle.ds_script.specs.declared.op.Op.{Op}
use Rattle.ds_script.specs.declared.op.Op.TheVariants as ops
use Rattle.ds_script.specs.declared.note.Note.{Note}
use Rattle.ds_script.specs.declared.note.Note.TheVariants as notes
use Rattle.ds_cert.specs.declared.delegation.Delegation.{Delegation}
use Rattle.ds_cert.specs.declared.lane.LaneCert.{LaneCert}
use Rattle.ds_msg.specs.declared.message.Message.{Message}
use Rattle.ds_model.specs.Keys.{same_key}
use Rattle.ds_model.specs.Scheme.{Scheme, Item, Hello, Framed}
use Rattle.ds_model.specs.Plan.{HostSetup, Plan, Link, OfLane, no_signing}
use Rattle.ds_model.specs.Desk.{Desk}
use Rattle.ds_model.specs.World.{Process, Worker, Host, World}
use Rattle.ds_model.specs.Step.{Event, Step, Frame, Arrive, Accept, Deliver, Tick, Inject, run}
use Rattle.ds_model.specs.Views.{proc_at}
use Rattle.ds_model.specs.Examples.OneHost.{empty_scheme, new_conn}
use Rattle.ds_model.specs.Examples.TwoHosts.{an_address}
use Rattle.ds_noninterference.specs.Observations.{Mark, Release, ToLane, Low, marks}
use Rattle.ds_noninterference.specs.Premises.{IsScheme}
use Rattle.ds_noninterference.specs.Law.{Premises}

-- the keys of the two trusted hosts and of the other one
abbrev pub a_key : PubKey
a_key = record { 0 = 97 ∷ [] }

abbrev pub b_key : PubKey
b_key = record { 0 = 98 ∷ [] }

abbrev pub x_key : PubKey
x_key = record { 0 = 120 ∷ [] }

-- the first host's secret, which it delegated to the second
abbrev pub secret : Category
secret = record { creator = a_key; kind = Secrecy; number = 0 }

abbrev pub to_b : Delegation
to_b = record { category = secret; to = b_key; from = 0; until = 100; by = a_key; signature = [] }

-- the high lane, the low one, and one of the other host's own, which isn't in the plan
abbrev pub high_cert : LaneCert
high_cert = record { exporter = a_key; lane = 1; receiver = b_key; label = secret ∷ []; key = record { 0 = 1 ∷ [] }; from = 0; until = 100; signature = [] }

abbrev pub low_cert : LaneCert
low_cert = record { exporter = a_key; lane = 2; receiver = x_key; label = []; key = record { 0 = 2 ∷ [] }; from = 0; until = 100; signature = [] }

abbrev pub own_cert : LaneCert
own_cert = record { exporter = x_key; lane = 9; receiver = b_key; label = []; key = record { 0 = 3 ∷ [] }; from = 0; until = 100; signature = [] }

-- THE SCHEME

-- a hello's byte
abbrev pub cert_of : ℕ → Option LaneCert
cert_of byte = if byte == 1 then Some low_cert else if byte == 2 then Some high_cert else if byte == 3 then Some own_cert else None

-- the message of a frame on a lane: the other host sends to slot 2
abbrev pub message_on : LaneCert → ℕ → Message
message_on lane byte = record { to = lane.receiver; slot = if lane.lane == 9 then 2 else 1; label = lane.label; own = []; clear = []; certs = []; payload = byte ∷ [] }

abbrev pub frames_on : LaneCert → List ℕ → List Item
frames_on lane [] = []
frames_on lane (number ∷ []) = []
frames_on lane (number ∷ byte ∷ rest) = Framed number (message_on lane byte ∷ []) ∷ frames_on lane rest

abbrev pub items_if : Bool → LaneCert → List ℕ → List Item
items_if true lane rest = Hello lane ∷ frames_on lane rest
items_if false lane rest = []

-- a hello for another host is a fault
abbrev pub items_by : PubKey → Option LaneCert → List ℕ → List Item
items_by key None rest = []
items_by key (Some lane) rest = items_if (same_key lane.receiver key) lane rest

abbrev pub net_items : PubKey → List ℕ → List Item
net_items key [] = []
net_items key (byte ∷ rest) = items_by key (cert_of byte) rest

-- the byte of the first message
abbrev pub byte_in : List ℕ → ℕ
byte_in [] = 0
byte_in (byte ∷ bytes) = byte

abbrev pub byte_of : List Message → ℕ
byte_of [] = 0
byte_of (m ∷ messages) = byte_in m.payload

-- the delegation is for the category, by its creator, to the key
abbrev pub names_key : Category → PubKey → Delegation → Bool
names_key c key d = same_category d.category c && (same_key d.by c.creator && same_key d.to key)

abbrev pub net_scheme : Scheme
net_scheme = record empty_scheme {
  good = λ d. true;
  good_lane = λ l. true;
  holds = λ certs moment c key. same_key key c.creator || list_any (names_key c key) certs;
  find = λ addresses moment key. Some an_address;
  has_leaf = λ signing leaf. true;
  has_lane_leaf = λ signing leaf. true;
  hello = λ lane. (if lane.lane == 1 then 2 else 1) ∷ [];
  frame = λ signing leaf messages. leaf ∷ byte_of messages ∷ [];
  items = λ key inlets stream. net_items key stream;
}

-- THE PLAN

abbrev pub a_host : HostSetup
a_host = record { key = a_key; silent = false; signing = no_signing; procs = 1; boxes = []; lanes = record { cert = high_cert; signing = no_signing; room = 4 } ∷ record { cert = low_cert; signing = no_signing; room = 4 } ∷ []; inlets = [] }

abbrev pub b_host : HostSetup
b_host = record { key = b_key; silent = false; signing = no_signing; procs = 2; boxes = record { slot = 1; owner = 0; label = secret ∷ []; room = 4 } ∷ record { slot = 2; owner = 1; label = []; room = 4 } ∷ []; lanes = []; inlets = record { exporter = a_key; lane = 1 } ∷ record { exporter = x_key; lane = 9 } ∷ [] }

abbrev pub x_host : HostSetup
x_host = record { key = x_key; silent = false; signing = no_signing; procs = 1; boxes = record { slot = 1; owner = 0; label = []; room = 4 } ∷ []; lanes = []; inlets = record { exporter = a_key; lane = 2 } ∷ [] }

-- the high lane's connection, the low one's, and a link to the second host
abbrev pub net : Plan
net = record { hosts = a_host ∷ b_host ∷ x_host ∷ []; conn_plans = record { host = 1; source = OfLane 0 0 } ∷ record { host = 2; source = OfLane 0 1 } ∷ record { host = 1; source = Link } ∷ [] }

-- the first two hosts are trusted
abbrev pub both : List ℕ
both = 0 ∷ 1 ∷ []

-- THE WORLD

abbrev pub proc : List Op → (label own names : List Category) → Process
proc script label own names = record { script = script; course = record { place = 0; registers = replicate 8 []; notes = [] }; label = label; own = own; clear = []; names = names; made = 1; hand = None }

abbrev pub desk_with : (rows : List Category) → (store issued : List Delegation) → Desk
desk_with rows store issued = record { moment = 0; rows = rows; store = store; addresses = []; issued = issued; leaf = 0 }

-- a lane's worker at the start
abbrev pub started : ℕ → Worker
started byte = record { hand = []; leaf = 0; stream = byte ∷ [] }

abbrev pub a_world : List Op → Host
a_world script = record { desk = desk_with [] (to_b ∷ []) (to_b ∷ []); procs = proc script (secret ∷ []) (secret ∷ []) [] ∷ []; boxes = []; queues = [] ∷ [] ∷ []; workers = started 2 ∷ started 1 ∷ []; logs = [] ∷ [] ∷ []; inlets = [] }

abbrev pub b_world : Host
b_world = record { desk = desk_with (secret ∷ []) (to_b ∷ []) []; procs = proc (ops.Take 0 1 ∷ []) (secret ∷ []) [] (secret ∷ []) ∷ proc (ops.Take 0 2 ∷ ops.Print 0 ∷ []) [] [] [] ∷ []; boxes = record { waiting = []; entries = [] } ∷ record { waiting = []; entries = [] } ∷ []; queues = []; workers = []; logs = []; inlets = None ∷ None ∷ [] }

abbrev pub x_world : Host
x_world = record { desk = desk_with [] [] []; procs = proc (ops.Take 0 1 ∷ ops.Print 0 ∷ []) [] [] [] ∷ []; boxes = record { waiting = []; entries = [] } ∷ []; queues = []; workers = []; logs = []; inlets = None ∷ [] }

abbrev pub net_world : List Op → World
net_world script = record { hosts = a_world script ∷ b_world ∷ x_world ∷ []; conns = new_conn ∷ new_conn ∷ new_conn ∷ [] }

-- the first host's process sends its secret byte to the second host, and then, since it owns the secret, another byte without it
abbrev pub yes_script : List Op
yes_script = ops.Set 0 (121 ∷ []) ∷ ops.Send 1 1 0 (secret ∷ []) [] [] ∷ ops.Set 0 (120 ∷ []) ∷ ops.Send 2 1 0 [] [] [] ∷ []

-- in the second run the secret is another one, and sent twice
abbrev pub no_script : List Op
no_script = ops.Set 0 (110 ∷ []) ∷ ops.Send 1 1 0 (secret ∷ []) [] [] ∷ ops.Send 1 1 0 (secret ∷ []) [] [] ∷ ops.Set 0 (120 ∷ []) ∷ ops.Send 2 1 0 [] [] [] ∷ []

-- the outsider writes a hello of its own and a frame on the link, which the second host takes; a clock ticks
abbrev pub attack : List Event
attack = Inject 2 (3 ∷ 0 ∷ 88 ∷ []) ∷ Arrive 2 3 ∷ Accept 2 ∷ Accept 2 ∷ Deliver 2 ∷ Deliver 2 ∷ Step 1 1 ∷ Step 1 1 ∷ Tick 1 5 ∷ []

-- the byte without the secret goes to the other host, which prints it
abbrev pub letting_out : List Event
letting_out = Step 0 0 ∷ Step 0 0 ∷ Step 0 0 ∷ Frame 0 1 ∷ Frame 0 1 ∷ Arrive 1 3 ∷ Accept 1 ∷ Accept 1 ∷ Deliver 1 ∷ Deliver 1 ∷ Step 2 0 ∷ Step 2 0 ∷ []

-- in the first run the secret is delivered and taken, before the outsider writes
abbrev pub yes_events : List Event
yes_events = (Step 0 0 ∷ Step 0 0 ∷ Step 0 0 ∷ Frame 0 0 ∷ Frame 0 0 ∷ Arrive 0 3 ∷ Accept 0 ∷ Accept 0 ∷ Deliver 0 ∷ Deliver 0 ∷ Step 1 0 ∷ []) ++ (attack ++ letting_out)

-- in the second one it is framed after that, and never read whole
abbrev pub no_events : List Event
no_events = (Step 0 0 ∷ Step 0 0 ∷ Step 0 0 ∷ Step 0 0 ∷ Step 0 0 ∷ Arrive 0 1 ∷ []) ++ (attack ++ (Frame 0 0 ∷ Frame 0 0 ∷ Accept 0 ∷ letting_out))

abbrev pub IsNetMet : Type 0
IsNetMet = IsScheme net_scheme net × Premises net_scheme secret both net (net_world yes_script) (net_world no_script) yes_events no_events

-- the release, whole
abbrev pub let_out : Message
let_out = record { to = x_key; slot = 1; label = []; own = []; clear = []; certs = []; payload = 120 ∷ [] }

-- what shows of both runs
abbrev pub shown : List Mark
shown = Low (Inject 2 (3 ∷ 0 ∷ 88 ∷ [])) ∷ Low (Arrive 2 3) ∷ Low (Accept 2) ∷ Low (Accept 2) ∷ Low (Deliver 2) ∷ Low (Deliver 2) ∷ Low (Step 1 1) ∷ Low (Step 1 1) ∷ Low (Tick 1 5)
    ∷ Release 0 0 (ToLane 1 let_out)
    ∷ Low (Frame 0 1) ∷ Low (Frame 0 1) ∷ Low (Arrive 1 3) ∷ Low (Accept 1) ∷ Low (Accept 1) ∷ Low (Deliver 1) ∷ Low (Deliver 1) ∷ Low (Step 2 0) ∷ Low (Step 2 0) ∷ []

abbrev pub IsNetMarked : Type 0
IsNetMarked = (marks net_scheme secret both net (net_world yes_script) yes_events ≡ shown) × (marks net_scheme secret both net (net_world no_script) no_events ≡ shown)

-- what a process has noted at the end
abbrev pub net_notes : List Op → List Event → (host proc : ℕ) → Option (List Note)
net_notes script events h p = option_map (λ x. x.course.notes) (proc_at (run net_scheme net (net_world script) events) h p)

-- the other host and the second host's low process print in both; the high one took the secret in the first run alone
abbrev pub IsNetSeen : Type 0
IsNetSeen = (net_notes yes_script yes_events 2 0 ≡ Some (notes.Took 1 1 true ∷ notes.Print (120 ∷ []) ∷ []))
    × (net_notes no_script no_events 2 0 ≡ Some (notes.Took 1 1 true ∷ notes.Print (120 ∷ []) ∷ []))
    × (net_notes yes_script yes_events 1 1 ≡ Some (notes.Took 2 1 true ∷ notes.Print (88 ∷ []) ∷ []))
    × (net_notes yes_script yes_events 1 0 ≡ Some (notes.Took 1 1 true ∷ []))
    × (net_notes no_script no_events 1 0 ≡ Some [])
