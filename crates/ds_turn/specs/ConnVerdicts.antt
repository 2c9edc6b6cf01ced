-- The verdict on a message that arrived, by the names of the desk's table: it is the model's.
use Rattle.std.specs.Prelude.{◌≡◌, List, map, Some, None, Result, Ok, Err, IsTrue}
use Rattle.ds_label.specs.declared.category.PubKey.{PubKey}
use Rattle.ds_label.specs.declared.category.Category.{Category}
use Rattle.ds_label.specs.declared.rule.Rule.{Rule}
use Rattle.ds_label.specs.Flow.{IsRising}
use Rattle.ds_label.specs.Names.{by_name}
use Rattle.ds_cert.specs.declared.lane.LaneCert.{LaneCert}
use Rattle.ds_msg.specs.declared.message.Message.{Message}
use Rattle.ds_msg.specs.declared.local.LocalMessage.{LocalMessage}
use Rattle.ds_model.specs.Scheme.{Scheme}
use Rattle.ds_model.specs.Plan.{BoxPlan, HostPlan}
use Rattle.ds_model.specs.World.{Mail}
use Rattle.ds_model.specs.ProcessStep.{mail_of}
use Rattle.ds_model.specs.ConnectionStep.{judge_delivery}
use Rattle.ds_map.specs.Table.{IsTable}
use Rattle.ds_map.specs.Labels.{have_names, named}
use Rattle.ds_flow.specs.Chains.{flow_scheme}
use Rattle.ds_desk.specs.Desks.{DeskView}
use Rattle.ds_share.specs.declared.desk_act.DeskReply.{DeskReply}
use Rattle.ds_share.specs.declared.desk_act.DeskAct.TheVariants as acts
use Rattle.ds_share.specs.Desks.{answer_for}
use Rattle.ds_turn.specs.declared.node.BoxSeat.{BoxSeat}
use Rattle.ds_turn.specs.ConnTurns.{IsVerdict, label_in}
use Rattle.ds_turn.specs.ConnAsks.{slot_in, slot_of}

abbrev pub label_by : BoxPlan → List Category
label_by b = b.label

abbrev pub named_label : PubKey → List Category → BoxSeat → List Category
named_label here rows seat = named here rows seat.label

-- a message inside a host by the names of a table
abbrev pub named_mail : PubKey → List Category → LocalMessage → Mail Category
named_mail here rows m =
    record { from = m.from; label = named here rows m.label; own = named here rows m.own; clear = named here rows m.clear; payload = m.payload }

-- The plan is of the desk's host, and its mailboxes are these, by the names of the desk's table.
pub record IsPlanOf (k : DeskView) (boxes : List BoxSeat) (plan : HostPlan) : Type 0 where
  pub key : plan.key ≡ k.here
  pub table : IsTable k.here k.desk.rows
  pub slots : map slot_in plan.boxes ≡ map slot_of boxes
  pub labels : map label_by plan.boxes ≡ map (named_label k.here k.desk.rows) boxes
  pub names : IsTrue (have_names k.here k.desk.rows (map label_in boxes))

-- the labels of a message are in order
pub record IsInOrder (m : Message) : Type 0 where
  pub label : IsRising by_name m.label
  pub own : IsRising by_name m.own
  pub clear : IsRising by_name m.clear

-- it passes where no rule of the model's judgement fails, as the mail that the model puts, or is dropped by the first that does
abbrev pub IsPlainVerdict : Scheme → HostPlan → DeskView → LaneCert → Message → Result LocalMessage Rule → Type 0
IsPlainVerdict s plan k lane m (Ok mail) =
    (judge_delivery (flow_scheme s) plan k.desk lane m ≡ None) × (named_mail k.here k.desk.rows mail ≡ mail_of lane.exporter m)
IsPlainVerdict s plan k lane m (Err rule) = judge_delivery (flow_scheme s) plan k.desk lane m ≡ Some rule

-- so it is wherever the reply is what that desk answers
abbrev pub IsJudgedPlainly : Type 0
IsJudgedPlainly = (s : Scheme) (plan : HostPlan) (k : DeskView) (boxes : List BoxSeat) (lane : LaneCert) (m : Message)
    (reply : DeskReply) (verdict : Result LocalMessage Rule)
    → IsPlanOf k boxes plan → IsInOrder m → reply ≡ answer_for s plan k (acts.JudgeArrive lane m) → IsVerdict boxes lane m reply verdict
    → IsPlainVerdict s plan k lane m verdict
