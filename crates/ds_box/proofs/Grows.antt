-- A mailbox that is one entry longer.
use Rattle.std.proofs.Common.{◌≡◌, ℕ, suc, ◌<◌, ◌≤◌, List, [], ◌∷◌, length, All, true, false, Some, refl, sym, ap, ◌∙◌, arith, length-append}
use Rattle.std.specs.Prelude.{nat_lt, nat_le, not}
use Rattle.std.proofs.lemmas.Bool.Decides.{nat_tests}
use Rattle.std.proofs.lemmas.List.Elements.{All-push}
use Rattle.ds_script.specs.declared.actor.Actor.{Actor}
use Rattle.ds_script.specs.Replay.{onward}
use Rattle.ds_script.proofs.Replays.{replay-push, last_of-push, rises-push}
use Rattle.ds_msg.specs.declared.local.LocalMessage.{LocalMessage}
use Rattle.ds_model.specs.Mailbox.{PutIn, FoundFull, TookOut, box_after, box_needs, BoxEntry as Change}
use Rattle.ds_box.specs.Boxes.{Mailbox, IsReplay, IsShortMail, IsShortAct, change_of, act_of, entry_of, history_step, stamp_of, last_stamp, entered}

-- the model's entry is an act's, and the act is its
change_again : (change : Change LocalMessage) → change_of (act_of change) ≡ change
change_again (PutIn m) = refl
change_again (FoundFull m) = refl
change_again TookOut = refl

-- an entry that may stand
may_stand : (room stamp : ℕ) (who : Actor) (change : Change LocalMessage) (waiting : List LocalMessage) → box_needs room change waiting ≡ true → history_step room waiting (entry_of stamp who change) ≡ Some (box_after change waiting)
may_stand room stamp who change waiting may = rw (change_again change, may) refl

still_fits : (room : ℕ) (change : Change LocalMessage) (waiting : List LocalMessage) → box_needs room change waiting ≡ true → length waiting ≤ room → length (box_after change waiting) ≤ room
still_fits room (PutIn m) waiting may fits = rw length-append (grind (arith, nat_tests))
still_fits room (FoundFull m) waiting may fits = fits
still_fits room TookOut [] may fits = fits
still_fits room TookOut (m ∷ waiting) may fits = omega (arith, fits)

still_short : (change : Change LocalMessage) (waiting : List LocalMessage) → IsShortAct (act_of change) → All IsShortMail waiting → All IsShortMail (box_after change waiting)
still_short (PutIn m) waiting short all = All-push IsShortMail waiting m all short
still_short (FoundFull m) waiting short all = all
still_short TookOut [] short all = all
still_short TookOut (m ∷ waiting) short all = λ k d lt. all (suc k) d (omega (arith, lt))

pub grown : (b : Mailbox) (stamp : ℕ) (who : Actor) (change : Change LocalMessage) → IsReplay b → last_stamp b < stamp → box_needs b.room change b.waiting ≡ true → IsShortAct (act_of change) → IsReplay (entered stamp who change b)
grown b stamp who change is later may short =
    let e = entry_of stamp who change in
    record {
      replays = replay-push (history_step b.room) b.opening b.history e ∙ ap (λ o. onward o (λ t. history_step b.room t e)) is.replays ∙ may_stand b.room stamp who change b.waiting may;
      rises = rises-push stamp_of b.before b.history e is.rises later;
      fits = still_fits b.room change b.waiting may is.fits;
      short_waiting = still_short change b.waiting short is.short_waiting;
      short_opening = is.short_opening;
      short_history = All-push (λ entry. IsShortAct entry.act) b.history e is.short_history short;
    }

pub grown_last : (b : Mailbox) (stamp : ℕ) (who : Actor) (change : Change LocalMessage) → stamp ≡ last_stamp (entered stamp who change b)
grown_last b stamp who change = sym (last_of-push stamp_of b.before b.history (entry_of stamp who change))

pub full_may : (n room : ℕ) → not (nat_lt n room) ≡ true → nat_le room n ≡ true
full_may n room full = grind (arith, nat_tests)

pub free_may : (n room : ℕ) → not (nat_lt n room) ≡ false → nat_lt n room ≡ true
free_may n room free = grind (arith, nat_tests)

-- where a message waits, a take may stand, and leaves the others
pub one_may : (room : ℕ) (m : LocalMessage) (rest waiting : List LocalMessage) → waiting ≡ m ∷ rest → box_needs room TookOut waiting ≡ true
one_may room m rest waiting is = rw is (grind (arith, nat_tests))

pub one_less : (m : LocalMessage) (rest waiting : List LocalMessage) → waiting ≡ m ∷ rest → box_after TookOut waiting ≡ rest
one_less m rest waiting is = rw is refl
