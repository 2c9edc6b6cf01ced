-- The entries of shared objects, spelled as receipts spell them.
use Rattle.std.specs.Prelude.{◌≡◌, ℕ, true, List, map}
use Rattle.ds_script.specs.Replay.{rises}
use Rattle.ds_cert.specs.Ranges.{CertRange, DelegationRange}
use Rattle.ds_msg.specs.Ranges.{MessageRange}
use Rattle.ds_box.specs.declared.entry.BoxEntry.{BoxEntry}
use Rattle.ds_box.specs.Boxes as boxes
use Rattle.ds_lane.specs.declared.entry.LaneEntry.{LaneEntry}
use Rattle.ds_lane.specs.declared.entry.LaneAct.{LaneAct}
use Rattle.ds_lane.specs.declared.entry.LaneAct.TheVariants.{Queued, Full, Lifted}
use Rattle.ds_lane.specs.Lanes as lanes
use Rattle.ds_inlet.specs.declared.entry.InletEntry.{InletEntry}
use Rattle.ds_inlet.specs.Inlets as inlets
use Rattle.ds_desk.specs.declared.act.DeskEntry.{DeskEntry}
use Rattle.ds_desk.specs.declared.act.DeskChange.{DeskChange}
use Rattle.ds_desk.specs.declared.act.DeskChange.TheVariants as changes
use Rattle.ds_desk.specs.Desks as desks
use Rattle.ds_share.specs.declared.entry.SpelledEntry.{SpelledEntry}
use Rattle.ds_share.specs.Mailboxes as of_box
use Rattle.ds_share.specs.SharedLanes as of_lane
use Rattle.ds_share.specs.SharedInlets as of_inlet
use Rattle.ds_share.specs.Desks as of_desk

-- an entry of a mailbox, of a lane, of an inlet and of a desk: with the number of its act, and what it says beside it
abbrev pub box_spelled : BoxEntry → SpelledEntry
box_spelled e = record { stamp = e.stamp; who = e.who; act = of_box.act_number e.act; body = of_box.act_body e.act }

abbrev pub lane_spelled : LaneEntry → SpelledEntry
lane_spelled e = record { stamp = e.stamp; who = e.who; act = of_lane.act_number e.act; body = of_lane.act_body e.act }

abbrev pub inlet_spelled : InletEntry → SpelledEntry
inlet_spelled e = record { stamp = e.stamp; who = e.who; act = of_inlet.act_number e.act; body = of_inlet.act_body e.act }

abbrev pub desk_spelled : DeskEntry → SpelledEntry
desk_spelled e = record { stamp = e.stamp; who = e.who; act = of_desk.act_number e.act; body = of_desk.act_body e.act }

abbrev pub stamp_of : SpelledEntry → ℕ
stamp_of e = e.stamp

-- ---- what they spell

-- They spell the history of a mailbox, which is the replay of it. So they do of a lane, of an inlet and of a desk.
pub record SpellsBox (entries : List SpelledEntry) : Type 0 where
  pub mailbox : boxes.Mailbox
  pub replay : boxes.IsReplay mailbox
  pub spelled : entries ≡ map box_spelled mailbox.history

pub record SpellsLane (entries : List SpelledEntry) : Type 0 where
  pub lane : lanes.Lane
  pub replay : lanes.IsReplay lane
  pub spelled : entries ≡ map lane_spelled lane.history

pub record SpellsInlet (entries : List SpelledEntry) : Type 0 where
  pub inlet : inlets.CountedLane
  pub replay : inlets.IsReplay inlet
  pub spelled : entries ≡ map inlet_spelled inlet.history

pub record SpellsDesk (entries : List SpelledEntry) : Type 0 where
  pub desk : desks.DeskView
  pub replay : desks.IsReplay desk
  pub spelled : entries ≡ map desk_spelled desk.history

-- the stamps are from 1 on, and each is above the one before
abbrev pub AreRising : List SpelledEntry → Type 0
AreRising entries = rises stamp_of 0 entries ≡ true

-- ---- which entries have a spelling

-- a lane's messages, and a desk's certificates, are in the ranges of their formats
abbrev pub LaneActRange : LaneAct → Type 0
LaneActRange (Queued w) = MessageRange w.message
LaneActRange (Full w) = MessageRange w.message
LaneActRange (Lifted count) = Unit {0}

abbrev pub ChangeRange : DeskChange → Type 0
ChangeRange changes.Look = Unit {0}
ChangeRange (changes.Tick to) = Unit {0}
ChangeRange (changes.Delegated d) = DelegationRange d
ChangeRange (changes.Imported c) = CertRange c
ChangeRange (changes.Mapped c) = Unit {0}
ChangeRange (changes.Refused rule) = Unit {0}
