-- The receipts of a lane's calls.
use Rattle.std.specs.Prelude.{◌≡◌, ℕ, ◌<◌, ◌⊎◌, List, [], length}
use Rattle.std.specs.List.{flat_map}
use Rattle.std.specs.Int.{w32, to_be_bytes}
use Rattle.ds_cert.specs.declared.lane.LaneCert.{LaneCert}
use Rattle.ds_msg.specs.declared.message.Message.{Message}
use Rattle.ds_msg.specs.Spelling.{spelling_of_message}
use Rattle.ds_model.specs.Lane.{LaneEntry as Change}
use Rattle.ds_lane.specs.declared.batch.Waiting.{Waiting}
use Rattle.ds_lane.specs.declared.entry.LaneAct.{LaneAct}
use Rattle.ds_lane.specs.declared.entry.LaneAct.TheVariants.{Queued, Full, Lifted}
use Rattle.ds_lane.specs.Lanes.{Lane, act_of, last_stamp}
use Rattle.ds_share.specs.declared.receipt.Receipt.{Receipt}
use Rattle.ds_share.specs.Receipts.{next_stamp}
use Rattle.ds_share.specs.Spelling.{spelling_of_waiting}

-- certificates of lanes with one receiver and label
pub record IsSameLane (a b : LaneCert) : Type 0 where
  pub receiver : a.receiver ≡ b.receiver
  pub label : a.label ≡ b.label

-- the number of an entry's act
abbrev pub act_number : LaneAct → ℕ
act_number (Queued w) = 1
act_number (Full w) = 2
act_number (Lifted count) = 3

-- what an entry says beside it: the message, or how many were lifted
abbrev pub act_body : LaneAct → List ℕ
act_body (Queued w) = spelling_of_message w.message
act_body (Full w) = spelling_of_message w.message
act_body (Lifted count) = to_be_bytes w32 count

-- the receipt of this change of the lane, made at the caller's stamp, by which that was handed out
abbrev pub lane_receipt : Lane → (caller : ℕ) → Change Waiting → (given : List ℕ) → Receipt
lane_receipt l caller change given =
    record {
      stamp = next_stamp (last_stamp l) caller;
      place = length l.history;
      act = act_number (act_of change);
      body = act_body (act_of change);
      given = given;
    }

-- A receipt of a message that was admitted: it was queued or found the lane full.
pub record IsReceiptOfAdmit (caller : ℕ) (m : Message) (r : Receipt) : Type 0 where
  pub later : caller < r.stamp
  pub act : (r.act ≡ 1) ⊎ (r.act ≡ 2)
  pub body : r.body ≡ spelling_of_message m
  pub given : r.given ≡ []

-- A receipt of a lift by which these messages were handed out.
pub record IsReceiptOfLift (caller : ℕ) (batch : List Waiting) (r : Receipt) : Type 0 where
  pub later : caller < r.stamp
  pub act : r.act ≡ 3
  pub body : r.body ≡ to_be_bytes w32 (length batch)
  pub given : r.given ≡ flat_map spelling_of_waiting batch
