-- The receipts of a mailbox's calls.
use Rattle.std.specs.Prelude.{◌≡◌, ℕ, ◌<◌, ◌⊎◌, List, [], length}
use Rattle.ds_msg.specs.declared.local.LocalMessage.{LocalMessage}
use Rattle.ds_model.specs.Mailbox.{BoxEntry as Change}
use Rattle.ds_box.specs.declared.entry.BoxAct.{BoxAct}
use Rattle.ds_box.specs.declared.entry.BoxAct.TheVariants.{Put, Full, Took}
use Rattle.ds_box.specs.Boxes.{Mailbox, act_of, last_stamp}
use Rattle.ds_share.specs.declared.receipt.Receipt.{Receipt}
use Rattle.ds_share.specs.Receipts.{next_stamp}
use Rattle.ds_share.specs.Spelling.{spelling_of_mail}

-- the number of an entry's act
abbrev pub act_number : BoxAct → ℕ
act_number (Put m) = 1
act_number (Full m) = 2
act_number Took = 3

-- what an entry says beside it: the message of a put, and nothing of a take
abbrev pub act_body : BoxAct → List ℕ
act_body (Put m) = spelling_of_mail m
act_body (Full m) = spelling_of_mail m
act_body Took = []

-- the receipt of this change of the mailbox, made at the caller's stamp, by which that was handed out
abbrev pub box_receipt : Mailbox → (caller : ℕ) → Change LocalMessage → (given : List ℕ) → Receipt
box_receipt b caller change given =
    record {
      stamp = next_stamp (last_stamp b) caller;
      place = length b.history;
      act = act_number (act_of change);
      body = act_body (act_of change);
      given = given;
    }

-- A receipt of a put of this message: it was queued or found the mailbox full.
pub record IsReceiptOfPut (caller : ℕ) (m : LocalMessage) (r : Receipt) : Type 0 where
  pub later : caller < r.stamp
  pub act : (r.act ≡ 1) ⊎ (r.act ≡ 2)
  pub body : r.body ≡ spelling_of_mail m
  pub given : r.given ≡ []

-- A receipt of a take by which this message was handed out.
pub record IsReceiptOfTake (caller : ℕ) (m : LocalMessage) (r : Receipt) : Type 0 where
  pub later : caller < r.stamp
  pub act : r.act ≡ 3
  pub body : r.body ≡ []
  pub given : r.given ≡ spelling_of_mail m
