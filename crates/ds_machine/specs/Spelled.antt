-- How a change of an object is spelled as an entry, and how what was handed out is. Names of categories are spelled as the host's
-- own numbers where a mailbox keeps them.
use Rattle.std.specs.Prelude.{ℕ, List, [], ◌∷◌, Option, Some, None, map, slice_get}
use Rattle.std.specs.List.{flat_map}
use Rattle.ds_label.specs.declared.category.PubKey.{PubKey}
use Rattle.ds_label.specs.declared.category.Category.{Category}
use Rattle.ds_script.specs.declared.actor.Actor.{Actor}
use Rattle.ds_msg.specs.declared.local.LocalMessage.{LocalMessage}
use Rattle.ds_model.specs.Scheme.{Scheme}
use Rattle.ds_model.specs.Plan.{HostPlan, Plan, host_plan}
use Rattle.ds_model.specs.Mailbox.{BoxEntry, PutIn, FoundFull, TookOut}
use Rattle.ds_model.specs.Lane.{LaneEntry, Queued, QueueFull, Lifted}
use Rattle.ds_model.specs.Desk.{Desk, act_entry, reply_of}
use Rattle.ds_model.specs.ExporterRules.{receiver_rule}
use Rattle.ds_model.specs.World.{Mail, Waiting, Host, World}
use Rattle.ds_model.specs.ProcessStep.{Ask, Waits, Internal, Put, Admit, TakeFrom, PublicAct, AsksJudgement}
use Rattle.ds_model.specs.WorkerStep.{LaneAsk, WorkerWaits, Lifts, AsksRecheck, frame_rule}
use Rattle.ds_model.specs.ConnectionStep.{ConnAsk, ConnWaits, ConnInternal, AsksInlet, AsksArrival, PutsPassed}
use Rattle.ds_model.specs.Step.{oldest_in, front_of}
use Rattle.ds_model.specs.Step as model
use Rattle.ds_model.specs.Views.{desk_at}
use Rattle.ds_map.specs.Labels.{numbered}
use Rattle.ds_desk.specs.Desks as desks
use Rattle.ds_box.specs.Boxes as boxes
use Rattle.ds_lane.specs.declared.batch.Waiting.{Waiting as OnLane}
use Rattle.ds_lane.specs.Lanes as lanes
use Rattle.ds_inlet.specs.Inlets as inlets
use Rattle.ds_share.specs.declared.desk_act.DeskReply.TheVariants.{Attached, Found, Named}
use Rattle.ds_share.specs.Spelling.{spelling_of_mail, spelling_of_waiting}
use Rattle.ds_share.specs.Desks as shared_desks
use Rattle.ds_share.specs.Desks.{answer_of, given_by_desk, given_by_judge, judged}
use Rattle.ds_share.specs.Mailboxes as shared_boxes
use Rattle.ds_share.specs.SharedLanes as shared_lanes
use Rattle.ds_share.specs.SharedInlets as shared_inlets
use Rattle.ds_merge.specs.declared.kept.Kept.{Kept}
use Rattle.ds_replay.specs.Objects.{Change, OfDesk, OfMailbox, OfLane, OfInlet}
use Rattle.ds_replay.specs.Touches.{Touch}
use Rattle.ds_machine.specs.Names.{name_of}

-- a message in a mailbox, in the numbers of the host with this key and table
abbrev pub local_mail : PubKey → (rows : List Category) → Mail Category → LocalMessage
local_mail here rows m = record {
  from = m.from;
  label = numbered here rows m.label;
  own = numbered here rows m.own;
  clear = numbered here rows m.clear;
  payload = m.payload;
}

-- an entry of a mailbox in these numbers
abbrev pub local_entry : PubKey → (rows : List Category) → BoxEntry (Mail Category) → BoxEntry LocalMessage
local_entry here rows (PutIn m) = PutIn (local_mail here rows m)
local_entry here rows (FoundFull m) = FoundFull (local_mail here rows m)
local_entry here rows TookOut = TookOut

-- a message on a lane, as its lane keeps it
abbrev pub on_lane : Waiting → OnLane
on_lane m = record { from = m.sender; message = m.message }

-- an entry of a lane, as its lane keeps it
abbrev pub lane_entry : LaneEntry Waiting → LaneEntry OnLane
lane_entry (Queued m) = Queued (on_lane m)
lane_entry (QueueFull m) = QueueFull (on_lane m)
lane_entry (Lifted count) = Lifted count

-- the number of a change's act
abbrev pub act_of : PubKey → (rows : List Category) → Change → ℕ
act_of here rows (OfDesk entry) = shared_desks.act_number (desks.act_of entry)
act_of here rows (OfMailbox entry) = shared_boxes.act_number (boxes.act_of (local_entry here rows entry))
act_of here rows (OfLane entry) = shared_lanes.act_number (lanes.act_of (lane_entry entry))
act_of here rows (OfInlet entry) = shared_inlets.act_number (inlets.act_of entry)

-- what it says beside it
abbrev pub body_of : PubKey → (rows : List Category) → Change → List ℕ
body_of here rows (OfDesk entry) = shared_desks.act_body (desks.act_of entry)
body_of here rows (OfMailbox entry) = shared_boxes.act_body (boxes.act_of (local_entry here rows entry))
body_of here rows (OfLane entry) = shared_lanes.act_body (lanes.act_of (lane_entry entry))
body_of here rows (OfInlet entry) = shared_inlets.act_body (inlets.act_of entry)

-- the table of a desk that may not be there
abbrev pub rows_of : Option Desk → List Category
rows_of None = []
rows_of (Some d) = d.rows

-- a touch as an entry: the change that an event of this actor at this stamp made, in the numbers that its host has before the event
abbrev pub kept_of : Plan → World → Actor → (stamp : ℕ) → Touch → Kept
kept_of plan w who stamp t = record {
  object = name_of (host_plan plan t.host) t.host t.object;
  stamp = stamp;
  who = who;
  act = act_of (host_plan plan t.host).key (rows_of (desk_at w t.host)) t.change;
  body = body_of (host_plan plan t.host).key (rows_of (desk_at w t.host)) t.change;
}

-- WHAT IS HANDED OUT

-- the message that a take took, if one
abbrev pub given_mail : PubKey → (rows : List Category) → Option (Mail Category) → List ℕ
given_mail here rows None = []
given_mail here rows (Some m) = spelling_of_mail (local_mail here rows m)

-- of a process: the message of a take, the number of a mapped category, and the desk's judgement of a send
abbrev pub given_to_ask : Scheme → HostPlan → Host → Ask → List ℕ
given_to_ask s plan x Waits = []
given_to_ask s plan x (Internal next) = []
given_to_ask s plan x (Put b m next) = []
given_to_ask s plan x (Admit l m next) = []
given_to_ask s plan x (TakeFrom b reg slot) = given_mail plan.key x.desk.rows (oldest_in (slice_get x.boxes b))
given_to_ask s plan x (PublicAct act reg host) = given_by_desk (answer_of (reply_of s plan x.desk (act_entry s plan x.desk act)))
given_to_ask s plan x (AsksJudgement m) =
    given_by_judge (judged (model.judged s plan x.desk m) (Attached (model.attached s plan x.desk m)))

-- the judgement of a hand is that of its first message: all messages of a lane have one receiver and one label
abbrev pub given_to_hand : Scheme → Desk → List Waiting → List ℕ
given_to_hand s d [] = []
given_to_hand s d (m ∷ rest) = given_by_judge (judged (frame_rule s d m) (Found []))

-- of a lane's worker: the messages of a lift, and the desk's judgement
abbrev pub given_to_lane_ask : Scheme → Host → (lane : ℕ) → LaneAsk → List ℕ
given_to_lane_ask s x l WorkerWaits = []
given_to_lane_ask s x l Lifts = flat_map spelling_of_waiting (map on_lane (front_of (slice_get x.queues l)))
given_to_lane_ask s x l (AsksRecheck hand) = given_to_hand s x.desk hand

-- of a connection: the desk's judgement of an arrival, with the message's labels in numbers
abbrev pub given_to_conn_ask : Scheme → HostPlan → Host → ConnAsk → List ℕ
given_to_conn_ask s plan x ConnWaits = []
given_to_conn_ask s plan x (ConnInternal next) = []
given_to_conn_ask s plan x (AsksInlet i number fresh stale) = []
given_to_conn_ask s plan x (AsksArrival lane m rest) =
    given_by_judge (judged (receiver_rule s x.desk.store x.desk.rows x.desk.moment plan.key lane m)
    (Named (numbered plan.key x.desk.rows m.label) (numbered plan.key x.desk.rows m.own) (numbered plan.key x.desk.rows m.clear)))
given_to_conn_ask s plan x (PutsPassed b m next) = []
