-- The receipts of an inlet's calls.
use Rattle.std.specs.Prelude.{◌≡◌, ℕ, ◌<◌, ◌≤◌, List, [], length, Option, Some, None, MatchOption}
use Rattle.std.specs.Int.{w32, to_be_bytes}
use Rattle.ds_model.specs.Inlet.{InletEntry as Change}
use Rattle.ds_inlet.specs.declared.entry.InletAct.{InletAct}
use Rattle.ds_inlet.specs.declared.entry.InletAct.TheVariants.{Fresh, Stale}
use Rattle.ds_inlet.specs.declared.state.Stale.{Stale as LastNumber}
use Rattle.ds_inlet.specs.Inlets.{CountedLane, act_of, last_stamp}
use Rattle.ds_share.specs.declared.receipt.Receipt.{Receipt}
use Rattle.ds_share.specs.Receipts.{next_stamp}

-- the number of an entry's act
abbrev pub act_number : InletAct → ℕ
act_number (Fresh number) = 1
act_number (Stale number) = 2

-- what an entry says beside it: the frame's number
abbrev pub act_body : InletAct → List ℕ
act_body (Fresh number) = to_be_bytes w32 number
act_body (Stale number) = to_be_bytes w32 number

-- the receipt of this change of the inlet, made at the caller's stamp
abbrev pub inlet_receipt : CountedLane → (caller : ℕ) → Change → Receipt
inlet_receipt i caller change =
    record {
      stamp = next_stamp (last_stamp i) caller;
      place = length i.history;
      act = act_number (act_of change);
      body = act_body (act_of change);
      given = [];
    }

-- the act's number, by what the call answers beside the receipt
abbrev pub answered_number : Option LastNumber → ℕ
answered_number None = 1
answered_number (Some stale) = 2

-- A receipt of a frame's number: it was fresh, or it isn't above the last one, which is told.
pub record IsReceiptOfAccept (caller number : ℕ) (stale : Option LastNumber) (r : Receipt) : Type 0 where
  pub later : caller < r.stamp
  pub act : r.act ≡ answered_number stale
  pub last : MatchOption stale (Unit {0}) (λ s. number ≤ s.last)
  pub body : r.body ≡ to_be_bytes w32 number
  pub given : r.given ≡ []
