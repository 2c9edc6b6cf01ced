-- A message that the desk judged, and the certificates that go with it.
use Rattle.std.specs.Prelude.{ℕ, List, Option, Some, None, option_map, slice_get}
use Rattle.ds_cert.specs.declared.lane.LaneCert.{LaneCert}
use Rattle.ds_msg.specs.declared.message.Message.{Message}
use Rattle.ds_msg.specs.Ranges.{CertsFit, MessageRange}
use Rattle.ds_share.specs.declared.desk_act.DeskAct.{DeskAct}
use Rattle.ds_share.specs.declared.desk_act.DeskAct.TheVariants as acts
use Rattle.ds_share.specs.declared.desk_act.DeskReply.{DeskReply}
use Rattle.ds_share.specs.declared.desk_act.DeskReply.TheVariants as replies

-- the number of the lane at a place, if there is one
abbrev pub number_at : List LaneCert → (place : Option ℕ) → Option ℕ
number_at lanes None = None
number_at lanes (Some place) = option_map (λ (cert : LaneCert). cert.lane) (slice_get lanes place)

-- what is asked of the desk about a message
abbrev pub send_act : List LaneCert → (place : Option ℕ) → Message → DeskAct
send_act lanes place m = acts.JudgeSend (number_at lanes place) m.to m.label m.own m.clear

-- it passes with certificates that a message may carry, or is refused
abbrev pub IsVerdict : DeskReply → Type 0
IsVerdict (replies.Attached certs) = CertsFit certs
IsVerdict (replies.Refused rule) = Unit {0}
IsVerdict _ = ⊥

-- where it passed, with its certificates it is in range
abbrev pub IsInRange : Message → DeskReply → Type 0
IsInRange m (replies.Attached certs) = MessageRange (record m { certs = certs })
IsInRange m _ = Unit {0}
