-- A message to another host, which the desk judges.
use Rattle.std.specs.Prelude.{◌≡◌, ℕ, ◌<◌, ◌^◌, List, Option, Some, None, Result, Ok, Err, position}
use Rattle.std.specs.List.{AllByRecursion, Any}
use Rattle.ds_wire.specs.Fields.{IsBytes}
use Rattle.ds_label.specs.declared.rule.Rule.{Rule}
use Rattle.ds_cert.specs.Ranges.{KeyFits, LabelFits}
use Rattle.ds_msg.specs.declared.message.Message.{Message}
use Rattle.ds_msg.specs.Ranges.{CertsFit}
use Rattle.ds_model.specs.ExporterRules.{attach, judge_send}
use Rattle.ds_desk.specs.Desks.{DeskView}
use Rattle.ds_scheme.specs.TheScheme.{scheme}
use Rattle.ds_exporter.specs.HostStates.{HostLane, HostProcess}
use Rattle.ds_exporter.specs.Queueing.{IsSentOn, is_lane_for}
use Rattle.ds_exporter.specs.Stepping.{refused_proc}

-- the first rule of a send that it breaks
abbrev pub send_rule : DeskView → List HostLane → Message → Option Rule
send_rule k lanes m = judge_send scheme (position (is_lane_for m.to m.label) lanes) k.desk.addresses k.desk.store k.desk.moment m.to m.label

-- the certificates that go with it
abbrev pub send_certs : DeskView → Message → List (List ℕ)
send_certs k m = attach scheme k.desk.store k.desk.moment k.here m.label m.own m.clear

-- one of the lanes has its receiver and label
abbrev pub HasItsLane : List HostLane → Message → Type 0
HasItsLane lanes m = Any (λ l. IsSentOn l.lane.cert m) lanes

-- there is a lane for it, with some number, or there is none
abbrev pub FindsLane : List HostLane → Message → Option ℕ → Type 0
FindsLane lanes m None = position (is_lane_for m.to m.label) lanes ≡ None
FindsLane lanes m (Some number) = (place : ℕ) × (position (is_lane_for m.to m.label) lanes ≡ Some place) × HasItsLane lanes m

-- what the message has beside its certificates and its payload is in range
pub record HasParts (m : Message) : Type 0 where
  pub to : KeyFits m.to
  pub slot : m.slot < 2 ^ 32
  pub label : LabelFits m.label
  pub own : LabelFits m.own
  pub clear : LabelFits m.clear

-- no rule fails, and these certificates go with it
pub record MaySend (k : DeskView) (lanes : List HostLane) (m : Message) (certs : List (List ℕ)) : Type 0 where
  pub rule : send_rule k lanes m ≡ None
  pub attached : certs ≡ send_certs k m
  pub fits : CertsFit certs
  pub bytes : AllByRecursion IsBytes certs
  pub parts : HasParts m
  pub lane : HasItsLane lanes m

-- so, or the first rule that fails
abbrev pub IsSendVerdict : DeskView → List HostLane → Message → Result (List (List ℕ)) Rule → Type 0
IsSendVerdict k lanes m (Ok certs) = MaySend k lanes m certs
IsSendVerdict k lanes m (Err rule) = send_rule k lanes m ≡ Some rule

-- the process with the message and these certificates in hand
abbrev pub holding : Message → List (List ℕ) → HostProcess → HostProcess
holding m certs x = record x { hand = Some (record m { certs = certs }) }

-- so, or refused
abbrev pub judged_proc : Message → Result (List (List ℕ)) Rule → HostProcess → HostProcess
judged_proc m (Ok certs) x = holding m certs x
judged_proc m (Err rule) x = refused_proc rule x
