-- An inlet that is one entry longer.
use Rattle.std.proofs.Common.{◌≡◌, ℕ, ◌<◌, true, false, Option, Some, refl, sym, ap, ◌∙◌}
use Rattle.std.specs.Prelude.{nat_lt}
use Rattle.ds_script.specs.declared.actor.Actor.{Actor}
use Rattle.ds_script.specs.Replay.{onward}
use Rattle.ds_script.proofs.Replays.{replay-push, last_of-push, rises-push}
use Rattle.ds_model.specs.Inlet.{Fresh, Stale, inlet_after, inlet_needs, InletEntry as Change}
use Rattle.ds_inlet.specs.Inlets.{CountedLane, IsReplay, change_of, act_of, entry_of, history_step, stamp_of, last_stamp, entered}

-- the model's entry is an act's, and the act is its
change_again : (change : Change) → change_of (act_of change) ≡ change
change_again (Fresh number) = refl
change_again (Stale number) = refl

-- an entry that may stand
may_stand : (stamp : ℕ) (who : Actor) (change : Change) (number : Option ℕ) → inlet_needs change number ≡ true → history_step number (entry_of stamp who change) ≡ Some (inlet_after change number)
may_stand stamp who change number may = rw (change_again change, may) refl

pub grown : (i : CountedLane) (stamp : ℕ) (who : Actor) (change : Change) → IsReplay i → last_stamp i < stamp → inlet_needs change i.number ≡ true → IsReplay (entered stamp who change i)
grown i stamp who change is later may =
    let e = entry_of stamp who change in
    record {
      replays = replay-push history_step i.opening i.history e ∙ ap (λ o. onward o (λ t. history_step t e)) is.replays ∙ may_stand stamp who change i.number may;
      rises = rises-push stamp_of i.before i.history e is.rises later;
    }

pub grown_last : (i : CountedLane) (stamp : ℕ) (who : Actor) (change : Change) → stamp ≡ last_stamp (entered stamp who change i)
grown_last i stamp who change = sym (last_of-push stamp_of i.before i.history (entry_of stamp who change))

pub stale_may : (number : ℕ) (last : Option ℕ) (n : ℕ) → last ≡ Some n → nat_lt n number ≡ false → inlet_needs (Stale number) last ≡ true
stale_may number last n is below = rw (is, below) refl
