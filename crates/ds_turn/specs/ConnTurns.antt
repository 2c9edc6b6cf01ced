-- What a turn of a connection does: with an empty hand and nothing passed it accepts, and else it delivers.
use Rattle.std.specs.Prelude.{◌≡◌, ◌⊎◌, ℕ, ◌+◌, ◌<◌, ◌≤◌, ◌==◌, true, List, [], ◌∷◌, map, position, slice_get, Option, Some, None, is_some, option_map, MatchOption, Result, Ok, Err}
use Rattle.std.specs.Option.{is_none}
use Rattle.std.specs.Int.{w32, to_be_bytes}
use Rattle.ds_label.specs.Numbers.{by_number}
use Rattle.ds_label.specs.declared.rule.Rule.{Rule}
use Rattle.ds_script.specs.declared.actor.Actor.{Actor}
use Rattle.ds_cert.specs.declared.lane.LaneCert.{LaneCert}
use Rattle.ds_msg.specs.declared.message.Message.{Message}
use Rattle.ds_msg.specs.declared.local.LocalMessage.{LocalMessage}
use Rattle.ds_frame.specs.declared.cause.Cause.{Cause}
use Rattle.ds_frame.specs.declared.item.Failure.{Failure}
use Rattle.ds_frame.specs.declared.item.ReadEnd.TheVariants as ends
use Rattle.ds_model.specs.Scheme.{InletName}
use Rattle.ds_model.specs.ProcessRules.{mailbox_rule}
use Rattle.ds_inlet.specs.declared.offer.Offer.TheVariants as offers
use Rattle.ds_inlet.specs.declared.state.Stale.{Stale}
use Rattle.ds_inlet.specs.Connections.{Connection, lane_inlet_of, passed_on, read_step, refused_by, settled}
use Rattle.ds_share.specs.declared.desk_act.DeskReply.{DeskReply}
use Rattle.ds_share.specs.declared.desk_act.DeskReply.TheVariants.{Done, Made, Local, Attached, Found, Named, Refused}
use Rattle.ds_share.specs.declared.desk_act.DeskAct.TheVariants as acts
use Rattle.ds_share.specs.declared.receipt.Receipt.{Receipt}
use Rattle.ds_share.specs.Desks.{IsReceiptOfAct, given_by_judge}
use Rattle.ds_share.specs.SharedInlets.{answered_number}
use Rattle.ds_share.specs.Spelling.{spelling_of_mail}
use Rattle.ds_merge.specs.declared.kept.Kept.{Kept}
use Rattle.ds_merge.specs.declared.recorded.Recorded.{Recorded}
use Rattle.ds_turn.specs.declared.node.BoxSeat.{BoxSeat}
use Rattle.ds_turn.specs.declared.node.InletSeat.{InletSeat}
use Rattle.ds_turn.specs.declared.node.Node.{Node}
use Rattle.ds_turn.specs.Records.{box_name, desk_name, entry_on, inlet_name}
use Rattle.ds_turn.specs.ConnRecords.{ConnRecord, recorded, with_conn}

-- WHAT A HOST'S THREADS SHARE

-- the name of an inlet
abbrev pub name_of_seat : InletSeat → InletName
name_of_seat seat = record { exporter = seat.exporter; lane = seat.lane }

-- the place of the mailbox with that slot
abbrev pub place_of : List BoxSeat → (slot : ℕ) → Option ℕ
place_of boxes slot = position (λ seat. seat.slot == slot) boxes

abbrev pub label_in : BoxSeat → List ℕ
label_in seat = seat.label

-- the label of the mailbox at a place
abbrev pub label_at : List BoxSeat → Option ℕ → Option (List ℕ)
label_at boxes None = None
label_at boxes (Some place) = option_map label_in (slice_get boxes place)

-- a mailbox has the slot of what passed
abbrev pub HasBox : List BoxSeat → Option (ℕ × LocalMessage) → Type 0
HasBox boxes None = Unit {0}
HasBox boxes (Some p) = is_some (place_of boxes p.0) ≡ true

-- before its hello a connection has no message
abbrev pub HasHelloFirst : Connection → Type 0
HasHelloFirst k = k.reader.lane ≡ None → (k.hand ≡ []) × (k.passed ≡ None)

-- The connection leads to this host: it has the desk's key and the inlets' names, what passed is for one of the mailboxes, and
-- its messages came behind its hello.
pub record LeadsTo (node : Node) (k : Connection) : Type 0 where
  pub here : k.here ≡ node.desk
  pub inlets : k.inlets ≡ map name_of_seat node.inlets.items
  pub passed : HasBox node.boxes.items k.passed
  pub hello : HasHelloFirst k

-- EVENTS

-- an arrival of these bytes
abbrev pub arrive_event : Actor → (stamp : ℕ) → (bytes : List ℕ) → Recorded
arrive_event who stamp bytes = record { who = who; stamp = stamp; act = 3; body = bytes; touched = None; given = [] }

-- an accept that touches no object
abbrev pub read_event : Actor → (stamp : ℕ) → Recorded
read_event who stamp = record { who = who; stamp = stamp; act = 4; body = []; touched = None; given = [] }

-- an accept (act 4) or a delivery (act 5) by which that entry was made and that was handed out
abbrev pub conn_event : (act : ℕ) → Kept → (given : List ℕ) → Recorded
conn_event act kept given = record { who = kept.who; stamp = kept.stamp; act = act; body = []; touched = Some kept; given = given }

-- an accept of a frame: the inlet at that place enters its number, as fresh where it told no last number, and as stale where it told one
abbrev pub count_event : Actor → (stamp inlet number : ℕ) → (told : Option Stale) → Recorded
count_event who stamp inlet number told =
    conn_event 4 (entry_on (inlet_name who.host inlet) who stamp (answered_number told) (to_be_bytes w32 number)) []

-- a delivery into the mailbox with that slot, which enters the message as queued (act 1) or as dropped since it is full (act 2)
abbrev pub put_event : Actor → (stamp slot act : ℕ) → LocalMessage → Recorded
put_event who stamp slot act mail = conn_event 5 (entry_on (box_name who.host slot) who stamp act (spelling_of_mail mail)) []

-- a delivery that is judged: the desk enters a look, and hands out its answer
abbrev pub arrival_event : Actor → (stamp : ℕ) → DeskReply → Recorded
arrival_event who stamp reply = conn_event 5 (entry_on (desk_name who.host) who stamp 1 []) (given_by_judge reply)

-- ACCEPT

-- A hello was taken.
pub record Greets (a b : ConnRecord) : Type 0 where
  pub hand : a.conn.hand ≡ []
  pub free : a.conn.passed ≡ None
  pub next : Connection
  pub reads : read_step a.conn ≡ record { answer = Ok offers.Hello; conn = next }
  pub becomes : b ≡ recorded next (read_event a.conn.who (a.stamp + 1)) a

-- The stream is broken, and the connection fails from now on.
pub record Breaks (a b : ConnRecord) : Type 0 where
  pub hand : a.conn.hand ≡ []
  pub free : a.conn.passed ≡ None
  pub unbroken : a.conn.reader.failure ≡ None
  pub cause : Cause
  pub place : ℕ
  pub next : Connection
  pub reads : read_step a.conn ≡ record { answer = Err (ends.BadFrame cause place); conn = next }
  pub becomes : b ≡ recorded next (read_event a.conn.who (a.stamp + 1)) a

-- The offered frame, with that number, was settled by the inlet at that place: it is fresh where that told no last number, and
-- else stale, since the last number isn't below it.
pub record IsCounted (inlet number : ℕ) (a b : ConnRecord) : Type 0 where
  pub told : Option Stale
  pub last : MatchOption told (Unit {0}) (λ s. number ≤ s.last)
  pub stamp : ℕ
  pub later : a.stamp < stamp
  pub becomes : b ≡ recorded (settled (is_none told) a.conn) (count_event a.conn.who stamp inlet number told) a

-- The next frame was settled by the inlet of its lane.
pub record Counts (a b : ConnRecord) : Type 0 where
  pub hand : a.conn.hand ≡ []
  pub free : a.conn.passed ≡ None
  pub inlet : ℕ
  pub number : ℕ
  pub next : Connection
  pub reads : read_step a.conn ≡ record { answer = Ok (offers.Frame inlet number); conn = next }
  pub place : lane_inlet_of next.inlets next.reader.lane ≡ Some inlet
  pub counts : IsCounted inlet number (with_conn next a) b

-- DELIVER

-- What passed was put into the mailbox with its slot, or dropped since that is full.
pub record Puts (a b : ConnRecord) : Type 0 where
  pub slot : ℕ
  pub mail : LocalMessage
  pub passed : a.conn.passed ≡ Some (slot, mail)
  pub act : ℕ
  pub acts : (act ≡ 1) ⊎ (act ≡ 2)
  pub stamp : ℕ
  pub later : a.stamp < stamp
  pub becomes : b ≡ recorded (record a.conn { passed = None }) (put_event a.conn.who stamp slot act mail) a

-- a message that arrived on a lane with that certificate, by its label, ownership and clearance in the host's numbers
abbrev pub mail_in : LaneCert → Message → (label own clear : List ℕ) → LocalMessage
mail_in lane m label own clear = record { from = lane.exporter; label = label; own = own; clear = clear; payload = m.payload }

-- the rule of the mailbox with that slot, for a message with this label
abbrev pub slot_rule : List BoxSeat → (slot : ℕ) → (label : List ℕ) → Option Rule
slot_rule boxes slot label = mailbox_rule by_number (label_at boxes (place_of boxes slot)) label

-- it passes as this one where no rule fails
abbrev pub by_rule : Option Rule → LocalMessage → Result LocalMessage Rule
by_rule None mail = Ok mail
by_rule (Some rule) mail = Err rule

-- The verdict on a message by the desk's answer: a rule that refuses it, or its numbers; then the rule of its mailbox comes next.
abbrev pub IsVerdict : List BoxSeat → LaneCert → Message → DeskReply → Result LocalMessage Rule → Type 0
IsVerdict boxes lane m (Refused rule) verdict = verdict ≡ Err rule
IsVerdict boxes lane m (Named label own clear) verdict = verdict ≡ by_rule (slot_rule boxes m.slot label) (mail_in lane m label own clear)
IsVerdict boxes lane m Done verdict = ⊥
IsVerdict boxes lane m (Made bytes) verdict = ⊥
IsVerdict boxes lane m (Local number) verdict = ⊥
IsVerdict boxes lane m (Attached certs) verdict = ⊥
IsVerdict boxes lane m (Found address) verdict = ⊥

-- the first message of the hand passes, or is dropped
abbrev pub after_verdict : Result LocalMessage Rule → Connection → Connection
after_verdict (Ok mail) k = passed_on mail k
after_verdict (Err rule) k = refused_by rule k

-- The first message of the hand was judged by the desk, which that receipt is of, and then by the mailbox with its slot.
pub record IsJudged (boxes : List BoxSeat) (a : ConnRecord) (receipt : Receipt) (verdict : Result LocalMessage Rule) : Type 0 where
  pub lane : LaneCert
  pub known : a.conn.reader.lane ≡ Some lane
  pub front : Message
  pub rest : List Message
  pub hand : a.conn.hand ≡ front ∷ rest
  pub reply : DeskReply
  pub answers : IsReceiptOfAct a.stamp (acts.JudgeArrive lane front) reply receipt
  pub says : IsVerdict boxes lane front reply verdict

-- So it was, and it passes, or is dropped by the first rule that fails.
pub record Judges (boxes : List BoxSeat) (a b : ConnRecord) : Type 0 where
  pub free : a.conn.passed ≡ None
  pub receipt : Receipt
  pub verdict : Result LocalMessage Rule
  pub judged : IsJudged boxes a receipt verdict
  pub becomes : b ≡ recorded (after_verdict verdict a.conn) (arrival_event a.conn.who receipt.stamp judged.reply) a

-- TURNS

-- A turn that made an event did one of these.
pub data TookConnTurn (boxes : List BoxSeat) (a b : ConnRecord) : Type 0 where
  Greeted : Greets a b → TookConnTurn boxes a b
  Broke : Breaks a b → TookConnTurn boxes a b
  Counted : Counts a b → TookConnTurn boxes a b
  Put : Puts a b → TookConnTurn boxes a b
  Judged : Judges boxes a b → TookConnTurn boxes a b

-- Nothing is there to be read: the next item isn't whole yet, or the stream is broken, which was read before.
pub data HasNothing (k : Connection) : Type 0 where
  IsOpen : read_step k ≡ record { answer = Err ends.NotYet; conn = k } → HasNothing k
  IsBroken : (failure : Failure) → k.reader.failure ≡ Some failure
      → read_step k ≡ record { answer = Err (ends.BadFrame failure.cause failure.place); conn = k } → HasNothing k

-- A turn that made none: nothing is in hand, nothing passed and nothing is there to be read.
pub record Rests (a b : ConnRecord) : Type 0 where
  pub hand : a.conn.hand ≡ []
  pub free : a.conn.passed ≡ None
  pub nothing : HasNothing a.conn
  pub same : b ≡ a

-- Where memory ran out: all is as it was, or the next frame of the stream was read, and stays offered until a later turn
-- settles it.
pub data KeepsBack (a b : ConnRecord) : Type 0 where
  AsItWas : b ≡ a → KeepsBack a b
  Offers : (inlet number : ℕ) → read_step a.conn ≡ record { answer = Ok (offers.Frame inlet number); conn = b.conn }
      → b ≡ with_conn b.conn a → KeepsBack a b
