-- A host's public state with its history. What an entry does, and when it may stand, is the model's.
use Rattle.std.specs.Prelude.{◌≡◌, ℕ, true, List, [], ◌∷◌, ◌++◌, Option, Some}
use Rattle.lms_sig.specs.Keys.{Key}
use Rattle.lms_sig.specs.Merkle.{public_key}
use Rattle.ds_label.specs.declared.category.PubKey.{PubKey}
use Rattle.ds_script.specs.declared.actor.Actor.{Actor}
use Rattle.ds_script.specs.Replay.{replay, last_of, rises}
use Rattle.ds_model.specs.Scheme.{Scheme}
use Rattle.ds_model.specs.Plan.{HostPlan}
use Rattle.ds_model.specs.Desk.{Desk, desk_after, desk_needs, desk_step, Ticked, Delegated, Imported, Mapped, Looked, Denied, DeskEntry as Change}
use Rattle.ds_desk.specs.declared.act.DeskChange.{DeskChange}
use Rattle.ds_desk.specs.declared.act.DeskChange.TheVariants as acts
use Rattle.ds_desk.specs.declared.act.DeskEntry.{DeskEntry}
use Rattle.ds_desk.specs.declared.opening.DeskOpening.{DeskOpening}
use Rattle.ds_desk.specs.declared.state.DeskState.{DeskState}
use Rattle.ds_desk.specs.Signing.{desk_scheme, desk_plan}

-- an entry's act is the model's entry
abbrev pub change_of : DeskChange → Change
change_of acts.Look = Looked
change_of (acts.Tick to) = Ticked to
change_of (acts.Delegated d) = Delegated d
change_of (acts.Imported c) = Imported c
change_of (acts.Mapped c) = Mapped c
change_of (acts.Refused rule) = Denied rule

abbrev pub act_of : Change → DeskChange
act_of Looked = acts.Look
act_of (Ticked to) = acts.Tick to
act_of (Delegated d) = acts.Delegated d
act_of (Imported c) = acts.Imported c
act_of (Mapped c) = acts.Mapped c
act_of (Denied rule) = acts.Refused rule

abbrev pub entry_of : ℕ → Actor → Change → DeskEntry
entry_of stamp who change = record { stamp = stamp; who = who; act = act_of change }

abbrev pub stamp_of : DeskEntry → ℕ
stamp_of entry = entry.stamp

-- A host's key, its signer's, and the host of its table; the desk now, its opening, and the entries since. What is left out is
-- the room that lists have taken.
pub record DeskView : Type 0 where
  pub here : PubKey
  pub key : Key
  pub table : PubKey
  pub desk : Desk
  pub opening : DeskOpening
  pub history : List DeskEntry

-- the model's desk in the fields
abbrev pub desk_of : DeskState → Desk
desk_of s = record { moment = s.moment; rows = s.table.rows; store = s.store.items; addresses = s.addresses.items; issued = s.issued.items; leaf = s.signer.next }

-- the model's desk at the opening
abbrev pub desk_then : DeskOpening → Desk
desk_then o = record { moment = o.moment; rows = o.table.rows; store = o.store.items; addresses = o.addresses.items; issued = o.issued.items; leaf = o.leaf }

abbrev pub kept_of : DeskState → DeskView
kept_of s = record { here = s.here; key = s.signer.key; table = s.table.here; desk = desk_of s; opening = s.opening; history = s.history.items }

-- the stamp of the last entry, or of the last one before the opening
abbrev pub last_stamp : DeskState → ℕ
last_stamp s = last_of stamp_of s.opening.before s.history.items

-- whether an entry may stand, and the desk after it, whatever else a scheme and a plan say
abbrev pub MayStand : DeskView → Change → Type 0
MayStand k change = (s : Scheme) (plan : HostPlan) → desk_needs (desk_scheme s) (desk_plan plan k.here k.key) change k.desk ≡ true

abbrev pub history_step : Scheme → HostPlan → Desk → DeskEntry → Option Desk
history_step s plan desk entry = desk_step s plan desk (change_of entry.act)

-- The desk is the replay of its history, each entry where it may stand; the stamps rise; the signer's public key is the host's,
-- and the table was made for it.
pub record IsReplay (k : DeskView) : Type 0 where
  pub replays : (s : Scheme) (plan : HostPlan) → replay (history_step (desk_scheme s) (desk_plan plan k.here k.key)) (desk_then k.opening) k.history ≡ Some k.desk
  pub rises : rises stamp_of k.opening.before k.history ≡ true
  pub signer : k.here.0 ≡ public_key k.key.params k.key.seed k.key.id
  pub table : k.table ≡ k.here

-- so it is of these fields
abbrev pub IsKept : DeskState → Type 0
IsKept s = IsReplay (kept_of s)

-- after an entry
abbrev pub entered : ℕ → Actor → Change → DeskView → DeskView
entered stamp who change k = record k { desk = desk_after k.here change k.desk; history = k.history ++ entry_of stamp who change ∷ [] }
