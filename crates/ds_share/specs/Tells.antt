-- What is told of a change of the desk.
use Rattle.std.specs.Prelude.{ℕ, List, [], Result, Ok, Err}
use Rattle.std.specs.Int.{w64, to_be_bytes}
use Rattle.ds_label.specs.declared.rule.Rule.{Rule}
use Rattle.ds_model.specs.Desk.{Denied, DeskEntry as Change}
use Rattle.ds_desk.specs.Desks.{act_of}
use Rattle.ds_desk.specs.declared.fault.DeskFault.{DeskFault}
use Rattle.ds_desk.specs.declared.fault.DeskFault.TheVariants as desk_faults
use Rattle.ds_desk.specs.declared.fault.EntryFault.{EntryFault}
use Rattle.ds_desk.specs.declared.fault.EntryFault.TheVariants as entry_faults
use Rattle.ds_share.specs.declared.desk_act.DeskReply.TheVariants as replies
use Rattle.ds_share.specs.declared.desk_act.TurnFault.{TurnFault}
use Rattle.ds_share.specs.declared.desk_act.TurnFault.TheVariants as faults
use Rattle.ds_share.specs.declared.told.Told.{Told}
use Rattle.ds_share.specs.declared.desk_act.DeskReply.{DeskReply}
use Rattle.ds_share.specs.Desks.{act_number, act_body}

abbrev pub told : Change → (given : List ℕ) → DeskReply → Told
told change given reply = record { act = act_number (act_of change); body = act_body (act_of change); given = given; reply = reply }

-- what was told is said of the act
abbrev pub Tells : (DeskReply → ℕ → List ℕ → List ℕ → Type 0) → Told → Type 0
Tells Say t = Say t.reply t.act t.body t.given

-- ---- what is told of a delegation, an import and a mapping, by what the desk answered

abbrev pub refused_told : Rule → Told
refused_told rule = told (Denied rule) [] (replies.Refused rule)

abbrev pub made_told : List ℕ → Told
made_told bytes = record { act = 3; body = bytes; given = []; reply = replies.Made bytes }

-- of this certificate
abbrev pub kept_told : List ℕ → Told
kept_told bytes = record { act = 4; body = bytes; given = []; reply = replies.Done }

-- of the category with this spelling
abbrev pub mapped_told : List ℕ → (local : ℕ) → Told
mapped_told spelled local = record { act = 5; body = spelled; given = to_be_bytes w64 local; reply = replies.Local local }

abbrev pub delegation_told : Result (List ℕ) DeskFault → Result Told TurnFault
delegation_told (Ok bytes) = Ok (made_told bytes)
delegation_told (Err (desk_faults.Refused rule)) = Ok (refused_told rule)
delegation_told (Err desk_faults.KeeperFault) = Err faults.KeeperFault
delegation_told (Err desk_faults.NoMemory) = Err faults.NoMemory

abbrev pub import_told : List ℕ → Result (Unit {0}) EntryFault → Result Told TurnFault
import_told cert (Ok done) = Ok (kept_told cert)
import_told cert (Err (entry_faults.Refused rule)) = Ok (refused_told rule)
import_told cert (Err entry_faults.NoMemory) = Err faults.NoMemory

abbrev pub mapping_told : List ℕ → Result ℕ EntryFault → Result Told TurnFault
mapping_told spelled (Ok local) = Ok (mapped_told spelled local)
mapping_told spelled (Err (entry_faults.Refused rule)) = Ok (refused_told rule)
mapping_told spelled (Err entry_faults.NoMemory) = Err faults.NoMemory
