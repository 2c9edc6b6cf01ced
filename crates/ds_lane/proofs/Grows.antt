-- A lane that is one entry longer.
use Rattle.std.proofs.Common.{◌≡◌, ℕ, ◌<◌, ◌≤◌, List, length, All, true, false, Some, refl, sym, ap, ◌∙◌, arith, length-append, length-drop}
use Rattle.std.specs.Prelude.{nat_lt, nat_le, not, min}
use Rattle.std.proofs.lemmas.Bool.Decides.{nat_tests}
use Rattle.std.proofs.lemmas.List.Elements.{All-push, All-drop}
use Rattle.ds_cert.specs.declared.lane.LaneCert.{LaneCert}
use Rattle.ds_script.specs.declared.actor.Actor.{Actor}
use Rattle.ds_script.specs.Replay.{onward}
use Rattle.ds_script.proofs.Replays.{replay-push, last_of-push, rises-push}
use Rattle.ds_model.specs.Lane.{Queued, QueueFull, Lifted, lane_after, lane_needs, frame_limit, LaneEntry as Change}
use Rattle.ds_lane.specs.declared.batch.Waiting.{Waiting}
use Rattle.ds_lane.specs.Lanes.{Lane, IsReplay, WaitsOn, ActsOn, change_of, act_of, entry_of, history_step, stamp_of, last_stamp, entered}

-- the model's entry is an act's, and the act is its
change_again : (change : Change Waiting) → change_of (act_of change) ≡ change
change_again (Queued w) = refl
change_again (QueueFull w) = refl
change_again (Lifted count) = refl

-- an entry that may stand
may_stand : (room stamp : ℕ) (who : Actor) (change : Change Waiting) (waiting : List Waiting) → lane_needs room change waiting ≡ true → history_step room waiting (entry_of stamp who change) ≡ Some (lane_after change waiting)
may_stand room stamp who change waiting may = rw (change_again change, may) refl

still_fits : (room : ℕ) (change : Change Waiting) (waiting : List Waiting) → lane_needs room change waiting ≡ true → length waiting ≤ room → length (lane_after change waiting) ≤ room
still_fits room (Queued w) waiting may fits = rw length-append (grind (arith, nat_tests))
still_fits room (QueueFull w) waiting may fits = fits
still_fits room (Lifted count) waiting may fits = rw length-drop (omega (arith, fits))

still_on : (cert : LaneCert) (change : Change Waiting) (waiting : List Waiting) → ActsOn cert (act_of change) → All (WaitsOn cert) waiting → All (WaitsOn cert) (lane_after change waiting)
still_on cert (Queued w) waiting on all = All-push (WaitsOn cert) waiting w all on
still_on cert (QueueFull w) waiting on all = all
still_on cert (Lifted count) waiting on all = All-drop (WaitsOn cert) count waiting all

pub grown : (l : Lane) (stamp : ℕ) (who : Actor) (change : Change Waiting) → IsReplay l → last_stamp l < stamp → lane_needs l.room change l.waiting ≡ true → ActsOn l.cert (act_of change) → IsReplay (entered stamp who change l)
grown l stamp who change is later may on =
    let e = entry_of stamp who change in
    record {
      replays = replay-push (history_step l.room) l.opening l.history e ∙ ap (λ o. onward o (λ t. history_step l.room t e)) is.replays ∙ may_stand l.room stamp who change l.waiting may;
      rises = rises-push stamp_of l.before l.history e is.rises later;
      fits = still_fits l.room change l.waiting may is.fits;
      on_waiting = still_on l.cert change l.waiting on is.on_waiting;
      on_opening = is.on_opening;
      on_history = All-push (λ entry. ActsOn l.cert entry.act) l.history e is.on_history on;
    }

pub grown_last : (l : Lane) (stamp : ℕ) (who : Actor) (change : Change Waiting) → stamp ≡ last_stamp (entered stamp who change l)
grown_last l stamp who change = sym (last_of-push stamp_of l.before l.history (entry_of stamp who change))

pub full_may : (n room : ℕ) → not (nat_lt n room) ≡ true → nat_le room n ≡ true
full_may n room full = grind (arith, nat_tests)

pub free_may : (n room : ℕ) → not (nat_lt n room) ≡ false → nat_lt n room ≡ true
free_may n room free = grind (arith, nat_tests)

-- where a message waits, a lift may stand
pub lift_may : (count room : ℕ) (waiting : List Waiting) → count ≡ min frame_limit (length waiting) → 0 < count → lane_needs room (Lifted count) waiting ≡ true
lift_may count room waiting is some = rw is (grind (arith, nat_tests))
