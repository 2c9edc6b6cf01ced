-- A connection that delivers: the first message of its hand is judged, and one that passed is put into its mailbox.
use Rattle.std.specs.Prelude.{◌≡◌, ℕ, List, [], ◌∷◌, Option, Some, None, option_map, Result, Ok, Err, slice_get}
use Rattle.std.specs.List.{Any}
use Rattle.ds_label.specs.declared.category.PubKey.{PubKey}
use Rattle.ds_label.specs.declared.category.Category.{Category}
use Rattle.ds_label.specs.declared.rule.Rule.{Rule}
use Rattle.ds_label.specs.Names.{by_name}
use Rattle.ds_cert.specs.declared.lane.LaneCert.{LaneCert}
use Rattle.ds_msg.specs.declared.message.Message.{Message}
use Rattle.ds_msg.specs.declared.local.LocalMessage.{LocalMessage}
use Rattle.ds_model.specs.Lists.{at}
use Rattle.ds_model.specs.FirstRule.{first_rule}
use Rattle.ds_model.specs.ProcessRules.{mailbox_rule}
use Rattle.ds_model.specs.ExporterRules.{receiver_rule}
use Rattle.ds_model.specs.ProcessStep.{mail_of}
use Rattle.ds_map.specs.Labels.{named, numbered}
use Rattle.ds_desk.specs.Desks.{DeskView}
use Rattle.ds_inlet.specs.Accepting.{IsReadSoFar}
use Rattle.ds_inlet.specs.Connections.{Connection, IsShortMessage, passed_on, refused_by}
use Rattle.ds_scheme.specs.TheScheme.{scheme}
use Rattle.ds_exporter.specs.HostStates.{HostBox}
use Rattle.ds_exporter.specs.PlainHosts.{plain_mail}
use Rattle.ds_exporter.specs.Conditions.{IsMailNamed}
use Rattle.ds_exporter.specs.Mailboxes.{label_at, place_of, put_in}

-- A MESSAGE THAT ARRIVED

-- the first rule of arrival that it breaks at a desk, where its lane has that certificate
abbrev pub arrival_rule : DeskView → LaneCert → Message → Option Rule
arrival_rule k lane m = receiver_rule scheme k.desk.store k.desk.rows k.desk.moment k.here lane m

-- the rule of the mailbox with its slot
abbrev pub slot_rule : DeskView → List HostBox → Message → Option Rule
slot_rule k boxes m = mailbox_rule by_name (option_map (named k.here k.desk.rows) (label_at boxes (place_of boxes m.slot))) m.label

-- the first rule of both
abbrev pub delivery_rule : DeskView → List HostBox → LaneCert → Message → Option Rule
delivery_rule k boxes lane m = first_rule (arrival_rule k lane m ∷ slot_rule k boxes m ∷ [])

-- what a mailbox keeps of it, in the numbers of a table
abbrev pub local_mail : PubKey → List Category → (from : PubKey) → Message → LocalMessage
local_mail here rows from m = record { from = from; label = numbered here rows m.label; own = numbered here rows m.own; clear = numbered here rows m.clear; payload = m.payload }

-- it passes as this message in the host's numbers
pub record Passes (k : DeskView) (boxes : List HostBox) (lane : LaneCert) (m : Message) (mail : LocalMessage) : Type 0 where
  pub rule : delivery_rule k boxes lane m ≡ None
  pub names : plain_mail k.here k.desk.rows mail ≡ mail_of lane.exporter m
  pub named : IsMailNamed k.here k.desk.rows mail
  pub box : Any (λ b. b.slot ≡ m.slot) boxes
  pub short : IsShortMessage mail

-- so, or it is dropped by the first rule that fails
abbrev pub IsVerdict : DeskView → List HostBox → LaneCert → Message → Result LocalMessage Rule → Type 0
IsVerdict k boxes lane m (Ok mail) = Passes k boxes lane m mail
IsVerdict k boxes lane m (Err rule) = delivery_rule k boxes lane m ≡ Some rule

-- THE CONNECTION

-- the verdict on the first message of its hand, on the lane whose certificate it read
pub record IsFrontJudged (k : DeskView) (boxes : List HostBox) (c : Connection) (verdict : Result LocalMessage Rule) : Type 0 where
  pub read : IsReadSoFar c
  pub lane : LaneCert
  pub known : c.reader.lane ≡ Some lane
  pub front : Message
  pub rest : List Message
  pub hand : c.hand ≡ front ∷ rest
  pub says : IsVerdict k boxes lane front verdict

-- it passes on, or is dropped
abbrev pub after_verdict : Result LocalMessage Rule → Connection → Connection
after_verdict (Ok mail) c = passed_on mail c
after_verdict (Err rule) c = refused_by rule c

-- the first message of the hand was judged
pub record IsJudged (k : DeskView) (boxes : List HostBox) (before after : Connection) : Type 0 where
  pub verdict : Result LocalMessage Rule
  pub judged : IsFrontJudged k boxes before verdict
  pub becomes : after ≡ after_verdict verdict before

-- the message that passed was put into the mailbox with its slot
pub record IsPut (stamp : ℕ) (before after : Connection) (boxes later : List HostBox) : Type 0 where
  pub read : IsReadSoFar before
  pub slot : ℕ
  pub mail : LocalMessage
  pub passed : before.passed ≡ Some (slot, mail)
  pub place : ℕ
  pub found : place_of boxes slot ≡ Some place
  pub becomes : after ≡ record before { passed = None }
  pub puts : later ≡ at place (put_in stamp before.who mail) boxes

-- the same of the connection at a place of a list
abbrev pub IsJudgedAt : DeskView → List HostBox → (place : ℕ) → (before after : List Connection) → Type 0
IsJudgedAt k boxes place before after = (c : Connection) → slice_get before place ≡ Some c → (d : Connection) × (after ≡ at place (λ _. d) before) × IsJudged k boxes c d

abbrev pub IsPutAt : (stamp place : ℕ) → (before after : List Connection) → (boxes later : List HostBox) → Type 0
IsPutAt stamp place before after boxes later = (c : Connection) → slice_get before place ≡ Some c → (d : Connection) × (after ≡ at place (λ _. d) before) × IsPut stamp c d boxes later
