-- Small worlds of what must not happen: a rule is asked in its order, a public act and a passed message are refused, a
-- message that lapsed on its lane is dropped and nowhere, each lane counts its own leaves, and a connection with work in
-- hand takes nothing.
use Rattle.std.specs.Prelude.{◌≡◌, List, [], ◌∷◌, ◌++◌, Some, None, option_map, slice_get, ◌==◌, if◌then◌else◌}
use Rattle.ds_label.specs.declared.category.Kind.TheVariants.{Secrecy}
use Rattle.ds_label.specs.declared.category.Category.{Category}
use Rattle.ds_label.specs.declared.rule.Rule.TheVariants.{NotKnown, NotPublic, NoAddress, NotFlowToBox}
use Rattle.ds_cert.specs.declared.lane.LaneCert.{LaneCert}
use Rattle.ds_script.specs.declared.op.Op.TheVariants as ops
use Rattle.ds_script.specs.declared.note.Note.TheVariants as notes
use Rattle.ds_msg.specs.declared.message.Message.{Message}
use Rattle.ds_model.specs.Scheme.{Scheme, Hello, Framed}
use Rattle.ds_model.specs.Plan.{HostSetup, Plan, OfLane}
use Rattle.ds_model.specs.Desk.{Desk}
use Rattle.ds_model.specs.World.{Worker, Conn, QueuedLine, FramedLine, DroppedLine, FrameLine, DropLine, Host, World}
use Rattle.ds_model.specs.Step.{Event, Step, Frame, Accept, Deliver, Tick, worker_at, run}
use Rattle.ds_model.specs.Views.{desk_at}
use Rattle.ds_model.specs.Examples.OneHost.{empty_scheme, only_key, one_host, one_process, steps, notes_of, a_secret, a_lane, a_message, reading_host, two_links, reading, new_conn, lines_of, after_steps}
use Rattle.ds_model.specs.Examples.Script.{far}
use Rattle.ds_model.specs.Examples.TwoHosts.{letter, toy_scheme, an_address, two_hosts, before_letter, posting, sender, receiver, receiving, logs_of}

-- A SEND that breaks two rules: the label is unknown, and the process's secret doesn't flow to it. The first is named.
abbrev pub two_faults : World
two_faults = one_process (ops.Send 0 1 0 (far Secrecy 9 ∷ []) [] [] ∷ []) (a_secret ∷ []) []

-- its note
abbrev pub IsFirst : Type 0
IsFirst = notes_of (after_steps 1 two_faults) ≡ Some (notes.Refused (NotKnown (far Secrecy 9)) ∷ [])

-- A PUBLIC ACT of a process that doesn't own the secret of its label.
abbrev pub mapping_secret : World
mapping_secret = one_process (ops.Map (far Secrecy 9) ∷ []) (a_secret ∷ []) []

-- its note, and the host's table
abbrev pub IsKeptIn : Type 0
IsKeptIn = (notes_of (after_steps 1 mapping_secret) ≡ Some (notes.Refused NotPublic ∷ []))
    × (option_map (λ d. d.rows) (desk_at (after_steps 1 mapping_secret) 0) ≡ Some [])

-- A PASSED MESSAGE whose label doesn't flow to its mailbox's: what is read is a lane with a secret in its label, and two
-- frames with a message of that label.
abbrev pub secret_lane : LaneCert
secret_lane = record a_lane { label = a_secret ∷ [] }

-- the message
abbrev pub secret_message : Message
secret_message = record a_message { label = a_secret ∷ [] }

-- the scheme that reads them
abbrev pub secret_scheme : Scheme
secret_scheme = record empty_scheme {
  items = λ key inlets stream. Hello secret_lane ∷ Framed 0 (secret_message ∷ []) ∷ Framed 1 (secret_message ∷ []) ∷ [];
}

-- it is dropped by the mailbox's rule
abbrev pub IsDropped : Type 0
IsDropped = lines_of 0 (run secret_scheme two_links reading (Accept 0 ∷ Accept 0 ∷ Deliver 0 ∷ Deliver 0 ∷ []))
    ≡ Some (FrameLine 0 1 ∷ DropLine NotFlowToBox 1 ∷ [])

-- A CONNECTION WITH WORK IN HAND takes no other frame.
abbrev pub busy : World
busy = run secret_scheme two_links reading (Accept 0 ∷ Accept 0 ∷ [])

-- an accept changes nothing there
abbrev pub IsBusy : Type 0
IsBusy = (option_map (λ y. y.hand) (slice_get busy.conns 0) ≡ Some (secret_message ∷ []))
    × (run secret_scheme two_links busy (Accept 0 ∷ []) ≡ busy)

-- A MESSAGE THAT LAPSES on its lane: the receiver's address is valid at moment 0 alone.
abbrev pub lapsing_scheme : Scheme
lapsing_scheme = record toy_scheme { find = λ addresses moment key. if moment == 0 then Some an_address else None }

-- it is judged, queued and lifted, and then the clock goes on before it is framed
abbrev pub lapsed : World
lapsed = run lapsing_scheme two_hosts before_letter (Step 1 0 ∷ Step 1 0 ∷ Step 1 0 ∷ Frame 1 0 ∷ Tick 1 5 ∷ Frame 1 0 ∷ [])

-- it is dropped: a line says so, nothing is in hand, no leaf is used and nothing is written
abbrev pub IsLapsed : Type 0
IsLapsed = (logs_of lapsed ≡ Some ((QueuedLine (record { sender = 0; message = letter }) ∷ DroppedLine NoAddress 0 1 ∷ []) ∷ []))
    × (worker_at (slice_get lapsed.hosts 1) 0 ≡ Some (record { hand = []; leaf = 0; stream = 255 ∷ [] }))

-- TWO LANES of one host to the same receiver, each with a message to be framed.
abbrev pub two_lanes : Plan
two_lanes = record { hosts = receiver ∷ record sender { lanes = sender.lanes ++ sender.lanes } ∷ []; conn_plans = [] }

-- a worker with the letter in hand
abbrev pub loaded : Worker
loaded = record { hand = record { sender = 0; message = letter } ∷ []; leaf = 0; stream = 255 ∷ [] }

-- both lanes frame
abbrev pub framed_both : World
framed_both = run toy_scheme two_lanes
    (record { hosts = receiving ∷ record posting { queues = [] ∷ [] ∷ []; workers = loaded ∷ loaded ∷ []; logs = [] ∷ [] ∷ [] } ∷ []; conns = [] })
    (Frame 1 0 ∷ Frame 1 1 ∷ [])

-- both at the first leaf of their own key, and no leaf of the host's is used
abbrev pub CountsAlone : Type 0
CountsAlone = (logs_of framed_both ≡ Some ((FramedLine 0 1 ∷ []) ∷ (FramedLine 0 1 ∷ []) ∷ []))
    × (option_map (λ d. d.leaf) (desk_at framed_both 1) ≡ Some 0)
