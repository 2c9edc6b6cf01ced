-- What the desk's judges answer.
use Rattle.std.proofs.Common.{◌≡◌, ℕ, ◌<◌, ◌+◌, true, take, length, List, [], ◌∷◌, Option, Some, None, refl, sym, ap, ◌∙◌, subst, arith}
use Rattle.std.specs.Prelude.{slice_index_or, is_some, Result, Ok, Err, IfOk}
use Rattle.std.proofs.lemmas.List.{take_more}
use Rattle.ds_msg.specs.Ranges.{CertsFit, AreShort}
use Rattle.ds_msg.proofs.CertLaws.{are_short}
use Rattle.ds_script.specs.declared.actor.Actor.{Actor}
use Rattle.ds_script.specs.Replay.{last_of}
use Rattle.ds_script.proofs.Replays.{last_of-push}
use Rattle.ds_desk.specs.declared.act.DeskEntry.{DeskEntry}
use Rattle.ds_model.specs.Scheme.{Scheme}
use Rattle.ds_model.specs.Plan.{HostPlan, no_signing}
use Rattle.ds_label.specs.declared.rule.Rule.{Rule}
use Rattle.ds_model.specs.FirstRule.{first_rule}
use Rattle.ds_model.specs.ExporterRules.{lane_rule}
use Rattle.ds_model.specs.Keys.{no_key}
use Rattle.ds_model.specs.Desk.{DeskEntry as Change}
use Rattle.ds_desk.specs.Desks.{DeskView, entered, entry_of, stamp_of}
use Rattle.ds_share.specs.declared.receipt.Receipt.{Receipt}
use Rattle.ds_share.specs.declared.desk_act.DeskAct.{DeskAct}
use Rattle.ds_share.specs.declared.desk_act.TurnFault.{TurnFault}
use Rattle.ds_share.specs.declared.desk_act.DeskReply.{DeskReply}
use Rattle.ds_share.specs.Receipts.{next_stamp}
use Rattle.ds_share.specs.Desks.{IsReceiptOfAct, SaysOf, desk_receipt, last_of_desk}

pub short_certs : (certs : List (List ℕ)) → CertsFit certs → AreShort certs
short_certs certs fit = are_short certs fit.each

-- some host's plan, where a fact holds of every one
abbrev pub some_plan : HostPlan
some_plan = record { key = no_key; silent = true; signing = no_signing; keys = []; procs = 0; boxes = []; lanes = []; inlets = [] }

-- and some scheme
abbrev pub some_scheme : Scheme
some_scheme = record {
  good = λ d. true;
  good_address = λ a. true;
  good_lane = λ l. true;
  holds = λ certs moment c key. true;
  chain = λ certs moment c key. [];
  find = λ addresses moment key. None;
  delegation_signature = λ k leaf by c to from until. [];
  spelling = λ d. [];
  read_cert = λ bytes. None;
  has_leaf = λ k leaf. true;
  has_lane_leaf = λ k leaf. true;
  hello = λ l. [];
  frame = λ k leaf ms. [];
  items = λ key inlets bytes. [];
  ending = λ key inlets bytes. None;
  frame_signed = λ key number ms bytes. true;
}

-- a send that passes has a lane
pub lane_there : (lane : Option ℕ) (sender : Option Rule) → first_rule (lane_rule lane ∷ sender ∷ []) ≡ None → is_some lane ≡ true
lane_there None sender e = absurd cc
lane_there (Some l) sender e = refl

-- the last stamp after an entry is the entry's
pub stamp_entered : (stamp : ℕ) (who : Actor) (change : Change) (before after : DeskView) → after ≡ entered stamp who change before → last_of_desk after ≡ stamp
stamp_entered stamp who change before after is = ap last_of_desk is ∙ last_of-push stamp_of before.opening.before before.history (entry_of stamp who change)

-- the stamp of the entry at a place is the last one up to it
pub last_taken : (base : ℕ) (es : List DeskEntry) (i : ℕ) (e : DeskEntry) → i < length es → e ≡ slice_index_or es i e → e.stamp ≡ last_of stamp_of base (take (i + 1) es)
last_taken base es i e within is =
    ap stamp_of is ∙ sym (ap (last_of stamp_of base) (take_more es i e within) ∙ last_of-push stamp_of base (take i es) (slice_index_or es i e))

above : (last caller : ℕ) → caller < next_stamp last caller
above last caller = omega arith

-- what the caller knows of a receipt of the desk
pub receipt_of_act : (caller : ℕ) (act : DeskAct) (k : DeskView) (change : Change) (given : DeskReply → List ℕ) (r : Result (Receipt × DeskReply) TurnFault) → IfOk r (λ p. p.0 ≡ desk_receipt k caller change (given p.1))
    → IfOk r (λ p. SaysOf act p.1 p.0.act p.0.body p.0.given) → IfOk r (λ p. IsReceiptOfAct caller act p.1 p.0)
receipt_of_act caller act k change given (Ok p) is says = record {
  later = subst (λ (x : Receipt). caller < x.stamp) (sym is) (above (last_of_desk k) caller);
  says = says;
}
receipt_of_act caller act k change given (Err fault) is says = tt
