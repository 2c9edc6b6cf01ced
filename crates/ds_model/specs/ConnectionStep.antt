-- A connection in two parts: what it asks of at most one shared object of its host, and what it becomes by the answer.
use Rattle.std.specs.Prelude.{ℕ, suc, ◌+◌, ◌==◌, ◌&&◌, List, [], ◌∷◌, ◌++◌, Option, Some, None, length, min, position, slice_get, if◌then◌else◌}
use Rattle.ds_label.specs.declared.category.Category.{Category}
use Rattle.ds_label.specs.declared.rule.Rule.{Rule}
use Rattle.ds_cert.specs.declared.lane.LaneCert.{LaneCert}
use Rattle.ds_msg.specs.declared.message.Message.{Message}
use Rattle.ds_model.specs.Keys.{same_key}
use Rattle.ds_model.specs.FirstRule.{first_rule}
use Rattle.ds_model.specs.Scheme.{Scheme, Item, Hello, Framed, Failure}
use Rattle.ds_model.specs.Plan.{HostPlan}
use Rattle.ds_model.specs.Desk.{Desk}
use Rattle.ds_model.specs.ExporterRules.{receiver_rule}
use Rattle.ds_model.specs.ProcessStep.{Target, Not, Into, judge_box, box_of, mail_of}
use Rattle.ds_model.specs.World.{Mail, Conn, FrameLine, StaleLine, PassLine, DropLine, Passed}

-- Nothing; a step of its own; an inlet's answer to a frame's number, with what it becomes where the frame is fresh and
-- where it is stale; that the desk judges a message; or a judged message into a mailbox, with what it becomes.
pub data ConnAsk : Type 0 where
  ConnWaits : ConnAsk
  ConnInternal : Conn → ConnAsk
  AsksInlet : (inlet number : ℕ) (fresh stale : Conn) → ConnAsk
  AsksArrival : LaneCert → Message → List Message → ConnAsk
  PutsPassed : (box : ℕ) → Mail Category → Conn → ConnAsk

-- more bytes of the stream arrive, as far as it has them
abbrev pub arrive : List ℕ → ℕ → Conn → Conn
arrive stream n k = record k { count = min (length stream) (k.count + n) }

-- the lane certificate that was read, first of all
abbrev pub hello_of : Option Item → Option LaneCert
hello_of None = None
hello_of (Some (Hello lane)) = Some lane
hello_of (Some (Framed number messages)) = None

-- the lane certificate that a host with this plan read of the arrived bytes
abbrev pub peer : Scheme → HostPlan → (arrived : List ℕ) → Option LaneCert
peer s plan arrived = hello_of (slice_get (s.items plan.key plan.inlets arrived) 0)

-- the inlet of the lane's exporter and number
abbrev pub inlet_of : HostPlan → LaneCert → Option ℕ
inlet_of plan lane = position (λ i. same_key i.exporter lane.exporter && (i.lane == lane.lane)) plan.inlets

-- ACCEPT: the next hello or frame

-- a fresh frame fills the hand
abbrev pub fresh_frame : Conn → ℕ → List Message → Conn
fresh_frame k number messages = record k { taken = suc k.taken; hand = messages; lines = k.lines ++ FrameLine number (length messages) ∷ [] }

-- a stale frame is dropped with all its messages
abbrev pub stale_frame : Conn → ℕ → Conn
stale_frame k number = record k { taken = suc k.taken; lines = k.lines ++ StaleLine number ∷ [] }

-- a frame whose inlet isn't declared can't come, since its hello has failed
abbrev pub take_frame : Conn → ℕ → List Message → Option ℕ → ConnAsk
take_frame k number messages None = ConnWaits
take_frame k number messages (Some i) = AsksInlet i number (fresh_frame k number messages) (stale_frame k number)

-- nor can one before a hello
abbrev pub frame_from : HostPlan → Conn → ℕ → List Message → Option LaneCert → ConnAsk
frame_from plan k number messages None = ConnWaits
frame_from plan k number messages (Some lane) = take_frame k number messages (inlet_of plan lane)

-- a broken stream fails the connection for good
abbrev pub fail : Conn → Option Failure → ConnAsk
fail k None = ConnWaits
fail k (Some failure) = ConnInternal (record k { failed = Some failure })

-- the next item: none, and perhaps a failure; a hello; or a frame
abbrev pub accept_item : Scheme → HostPlan → Conn → List ℕ → Option Item → ConnAsk
accept_item s plan k arrived None = fail k (s.ending plan.key plan.inlets arrived)
accept_item s plan k arrived (Some (Hello lane)) = ConnInternal (record k { taken = suc k.taken })
accept_item s plan k arrived (Some (Framed number messages)) = frame_from plan k number messages (peer s plan arrived)

-- only with an empty hand, nothing passed and no failure
abbrev pub accept_free : Scheme → HostPlan → Conn → List ℕ → List Message → Option Passed → Option Failure → ConnAsk
accept_free s plan k arrived [] None None = accept_item s plan k arrived (slice_get (s.items plan.key plan.inlets arrived) k.taken)
accept_free s plan k arrived _ _ _ = ConnWaits

-- nobody accepts for a silent host
abbrev pub accept : Scheme → HostPlan → Conn → (arrived : List ℕ) → ConnAsk
accept s plan k arrived = if plan.silent then ConnWaits else accept_free s plan k arrived k.hand k.passed k.failed

-- DELIVER: a message of the hand is judged, and then put

-- a mailbox that isn't there can't come: the message was judged for it
abbrev pub put_passed : Conn → Mail Category → Option ℕ → ConnAsk
put_passed k m None = ConnWaits
put_passed k m (Some b) = PutsPassed b m (record k { passed = None })

-- a passed message is put; with none, the first message of the hand is judged
abbrev pub deliver_to : HostPlan → Conn → LaneCert → List Message → Option Passed → ConnAsk
deliver_to plan k lane hand (Some p) = put_passed k p.mail (box_of plan p.slot)
deliver_to plan k lane [] None = ConnWaits
deliver_to plan k lane (m ∷ rest) None = AsksArrival lane m rest

-- before a hello there is nothing to deliver
abbrev pub deliver_from : HostPlan → Conn → Option LaneCert → ConnAsk
deliver_from plan k None = ConnWaits
deliver_from plan k (Some lane) = deliver_to plan k lane k.hand k.passed

-- nobody delivers for a silent host
abbrev pub deliver : Scheme → HostPlan → Conn → (arrived : List ℕ) → ConnAsk
deliver s plan k arrived = if plan.silent then ConnWaits else deliver_from plan k (peer s plan arrived)

-- the rule of a judgement for a mailbox, if one fails
abbrev pub target_rule : Target → Option Rule
target_rule (Not rule) = Some rule
target_rule (Into b) = None

-- the first rule of arrival or of the mailbox
abbrev pub judge_delivery : Scheme → HostPlan → Desk → LaneCert → Message → Option Rule
judge_delivery s plan d lane m = first_rule (
    receiver_rule s d.store d.rows d.moment plan.key lane m
    ∷ target_rule (judge_box plan m.slot m.label)
    ∷ [])

-- what is left of a message that passes: the mailbox's slot, and what goes into the mailbox
abbrev pub passed_of : LaneCert → Message → Passed
passed_of lane m = record { slot = m.slot; mail = mail_of lane.exporter m }

-- a message that passes waits to be put, another one is dropped
abbrev pub delivery_after_reply : LaneCert → Message → List Message → Option Rule → Conn → Conn
delivery_after_reply lane m rest None k = record k { hand = rest; passed = Some (passed_of lane m); lines = k.lines ++ PassLine m.slot ∷ [] }
delivery_after_reply lane m rest (Some rule) k = record k { hand = rest; lines = k.lines ++ DropLine rule m.slot ∷ [] }
