-- A mailbox with its history. What an entry does, and when it may stand, is the model's.
use Rattle.std.specs.Prelude.{◌≡◌, ℕ, ◌≤◌, true, List, [], ◌∷◌, ◌++◌, length, All, Option, Some}
use Rattle.ds_script.specs.declared.actor.Actor.{Actor}
use Rattle.ds_script.specs.Fits.{IsShort}
use Rattle.ds_script.specs.Replay.{replay, last_of, rises}
use Rattle.ds_msg.specs.declared.local.LocalMessage.{LocalMessage}
use Rattle.ds_model.specs.Mailbox.{PutIn, FoundFull, TookOut, box_after, box_step, BoxEntry as Change}
use Rattle.ds_box.specs.declared.entry.BoxEntry.{BoxEntry}
use Rattle.ds_box.specs.declared.entry.BoxAct.{BoxAct}
use Rattle.ds_box.specs.declared.entry.BoxAct.TheVariants.{Put, Full, Took}

-- its label, owner and room; what waited at its opening, and the last stamp before; its entries since; what waits
pub record Mailbox : Type 0 where
  pub label : List ℕ
  pub owner : ℕ
  pub room : ℕ
  pub opening : List LocalMessage
  pub before : ℕ
  pub history : List BoxEntry
  pub waiting : List LocalMessage

-- a mailbox, and for how many calls there is memory
pub record MailboxWithCapacity : Type 0 where
  pub mailbox : Mailbox
  pub spare : ℕ

-- an entry's act is the model's entry
abbrev pub change_of : BoxAct → Change LocalMessage
change_of (Put m) = PutIn m
change_of (Full m) = FoundFull m
change_of Took = TookOut

abbrev pub act_of : Change LocalMessage → BoxAct
act_of (PutIn m) = Put m
act_of (FoundFull m) = Full m
act_of TookOut = Took

abbrev pub entry_of : ℕ → Actor → Change LocalMessage → BoxEntry
entry_of stamp who change = record { stamp = stamp; who = who; act = act_of change }

-- what waits after an entry, or none where it may not stand
abbrev pub history_step : ℕ → List LocalMessage → BoxEntry → Option (List LocalMessage)
history_step room waiting entry = box_step room waiting (change_of entry.act)

abbrev pub stamp_of : BoxEntry → ℕ
stamp_of entry = entry.stamp

-- the stamp of the last entry, or of the last one before the opening
abbrev pub last_stamp : Mailbox → ℕ
last_stamp b = last_of stamp_of b.before b.history

-- few enough bytes
abbrev pub IsShortMail : LocalMessage → Type 0
IsShortMail m = IsShort m.payload

abbrev pub IsShortAct : BoxAct → Type 0
IsShortAct (Put m) = IsShortMail m
IsShortAct (Full m) = IsShortMail m
IsShortAct Took = Unit {0}

-- what waits is the replay of the history, and its stamps rise
pub record IsReplay (b : Mailbox) : Type 0 where
  pub replays : replay (history_step b.room) b.opening b.history ≡ Some b.waiting
  pub rises : rises stamp_of b.before b.history ≡ true
  pub fits : length b.waiting ≤ b.room
  pub short_waiting : All IsShortMail b.waiting
  pub short_opening : All IsShortMail b.opening
  pub short_history : All (λ entry. IsShortAct entry.act) b.history

-- before any entry
abbrev pub fresh_mailbox : List ℕ → ℕ → ℕ → Mailbox
fresh_mailbox label owner room = record { label = label; owner = owner; room = room; opening = []; before = 0; history = []; waiting = [] }

-- after an entry
abbrev pub entered : ℕ → Actor → Change LocalMessage → Mailbox → Mailbox
entered stamp who change b = record b { history = b.history ++ entry_of stamp who change ∷ []; waiting = box_after change b.waiting }

-- the present state is the opening
abbrev pub checkpointed : Mailbox → Mailbox
checkpointed b = record b { opening = b.waiting; before = last_stamp b; history = [] }
