-- A judged message in a process's hand goes onto its lane.
use Rattle.std.specs.Prelude.{◌≡◌, ◌<◌, ℕ, Bool, ◌&&◌, List, Some, None, length, slice_get}
use Rattle.ds_label.specs.declared.category.PubKey.{PubKey}
use Rattle.ds_label.specs.declared.category.Category.{Category}
use Rattle.ds_label.specs.Flow.{same_label}
use Rattle.ds_label.specs.Names.{by_name}
use Rattle.ds_cert.specs.declared.lane.LaneCert.{LaneCert}
use Rattle.ds_script.specs.declared.actor.Actor.{Actor}
use Rattle.ds_script.specs.declared.note.Note.TheVariants as notes
use Rattle.ds_script.specs.Process.{finished_process}
use Rattle.ds_msg.specs.declared.message.Message.{Message}
use Rattle.ds_model.specs.Keys.{same_key}
use Rattle.ds_model.specs.Lane.{admit_entry}
use Rattle.ds_model.specs.Plan.{HostPlan}
use Rattle.ds_model.specs.World.{Process}
use Rattle.ds_model.specs.ProcessStep.{Waits, queue_at, lane_of as lane_place}
use Rattle.ds_lane.specs.Lanes.{IsOn, entered, sent_by}
use Rattle.ds_actor.specs.declared.ask.ProcessAsk.{ProcessAsk}
use Rattle.ds_actor.specs.declared.ask.ProcessAsk.TheVariants as asks
use Rattle.ds_actor.specs.Sites.{SitePlan, with_site}
use Rattle.ds_actor.specs.Asks.{IsAsked, IsAskInRange, IsCopied}
use Rattle.ds_actor.specs.Asking.{IsOfHand}
use Rattle.ds_exporter.specs.declared.parts.LanePart.{LanePart}
use Rattle.ds_exporter.specs.HostStates.{HostLane, HostProcess, HostState}
use Rattle.ds_exporter.specs.Stepping.{Asks, admit_ask, always}

-- whether it is the lane to that exporter with that label
abbrev pub is_lane_for : PubKey → List Category → HostLane → Bool
is_lane_for to label l = same_key l.lane.cert.receiver to && same_label by_name l.lane.cert.label label

-- the lane after a message came to it
abbrev pub admitted_lane : (stamp : ℕ) → Actor → Message → HostLane → HostLane
admitted_lane stamp who m l = record l { lane = entered stamp who (admit_entry l.lane.room (sent_by who.index m) l.lane.waiting) l.lane }

-- the process after it: it notes that it sent, whether there was room or not
abbrev pub queued_proc : HostProcess → HostProcess
queued_proc x = record { process = finished_process (Some notes.Sent) None x.process; hand = None }

-- there is memory for a message on the lane at a place
abbrev pub HasLaneRoomAt : (place : ℕ) → List LanePart → Type 0
HasLaneRoomAt place lanes = (l : LanePart) → slice_get lanes place ≡ Some l → 0 < l.state.spare

-- a message goes onto each lane that stands at a place
abbrev pub IsOnAt : (place : ℕ) → List HostLane → Message → Type 0
IsOnAt place lanes m = (l : HostLane) → slice_get lanes place ≡ Some l → IsOn l.lane.cert m

-- it has that lane's receiver and label
pub record IsSentOn (cert : LaneCert) (m : Message) : Type 0 where
  pub to : m.to ≡ cert.receiver
  pub label : m.label ≡ cert.label

-- What a process with a judged message in hand asks.
pub record HandAsks (site : SitePlan) (x : HostProcess) (a : ProcessAsk) : Type 0 where
  pub message : Message
  pub hand : x.hand ≡ Some message
  pub kind : IsOfHand a
  pub copied : IsCopied a
  pub range : IsAskInRange site a
  pub asked : (here : PubKey) (rows : List Category) (plan : HostPlan) (y z : Process) → IsAsked here rows y z a (queue_at y message (lane_place (with_site site rows plan) message.to message.label))

-- so it asks for its lane, or for nothing
abbrev pub LeadsToLane : (place : ℕ) → HostState → ProcessAsk → Type 0
LeadsToLane p e asks.Waits = Asks p e (always Waits)
LeadsToLane p e (asks.Admit lane m kept) = Asks p e (admit_ask lane m) × (kept ≡ m) × (lane < length e.lanes)
LeadsToLane p e _ = ⊥
