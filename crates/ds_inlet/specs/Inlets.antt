-- An inlet with its history. What an entry does, and when it may stand, is the model's.
use Rattle.std.specs.Prelude.{◌≡◌, ℕ, true, List, [], ◌∷◌, ◌++◌, Option, Some, None}
use Rattle.ds_label.specs.declared.category.PubKey.{PubKey}
use Rattle.ds_script.specs.declared.actor.Actor.{Actor}
use Rattle.ds_script.specs.Replay.{replay, last_of, rises}
use Rattle.ds_model.specs.Inlet.{Fresh as IsFresh, Stale as IsStale, inlet_after, inlet_step, InletEntry as Change}
use Rattle.ds_inlet.specs.declared.entry.InletEntry.{InletEntry}
use Rattle.ds_inlet.specs.declared.entry.InletAct.{InletAct}
use Rattle.ds_inlet.specs.declared.entry.InletAct.TheVariants.{Fresh, Stale}

-- the exporter and the number of its lane; the last number at its opening, if any, and the last stamp before; its entries
-- since; the last number now, if any
pub record CountedLane : Type 0 where
  pub exporter : PubKey
  pub lane : ℕ
  pub opening : Option ℕ
  pub before : ℕ
  pub history : List InletEntry
  pub number : Option ℕ

-- an inlet, and for how many calls there is memory
pub record InletWithCapacity : Type 0 where
  pub inlet : CountedLane
  pub spare : ℕ

-- an entry's act is the model's entry
abbrev pub change_of : InletAct → Change
change_of (Fresh number) = IsFresh number
change_of (Stale number) = IsStale number

abbrev pub act_of : Change → InletAct
act_of (IsFresh number) = Fresh number
act_of (IsStale number) = Stale number

abbrev pub entry_of : ℕ → Actor → Change → InletEntry
entry_of stamp who change = record { stamp = stamp; who = who; act = act_of change }

-- the last number after an entry, or none where it may not stand
abbrev pub history_step : Option ℕ → InletEntry → Option (Option ℕ)
history_step number entry = inlet_step number (change_of entry.act)

abbrev pub stamp_of : InletEntry → ℕ
stamp_of entry = entry.stamp

-- the stamp of the last entry, or of the last one before the opening
abbrev pub last_stamp : CountedLane → ℕ
last_stamp i = last_of stamp_of i.before i.history

-- the last number is the replay of the history, and its stamps rise
pub record IsReplay (i : CountedLane) : Type 0 where
  pub replays : replay history_step i.opening i.history ≡ Some i.number
  pub rises : rises stamp_of i.before i.history ≡ true

-- before any entry
abbrev pub fresh_inlet : PubKey → ℕ → CountedLane
fresh_inlet exporter lane = record { exporter = exporter; lane = lane; opening = None; before = 0; history = []; number = None }

-- after an entry
abbrev pub entered : ℕ → Actor → Change → CountedLane → CountedLane
entered stamp who change i = record i { history = i.history ++ entry_of stamp who change ∷ []; number = inlet_after change i.number }

-- the present state is the opening
abbrev pub checkpointed : CountedLane → CountedLane
checkpointed i = record i { opening = i.number; before = last_stamp i; history = [] }
