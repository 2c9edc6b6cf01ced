-- What a public act answers.
use Rattle.std.specs.Prelude.{◌≡◌, ℕ, Option, Some, None, Result, Ok, Err}
use Rattle.ds_script.specs.declared.actor.Actor.{Actor}
use Rattle.ds_label.specs.declared.rule.Rule.{Rule}
use Rattle.ds_cert.specs.declared.cert.Cert.{Cert}
use Rattle.ds_model.specs.Scheme.{Scheme}
use Rattle.ds_model.specs.Plan.{HostPlan}
use Rattle.ds_model.specs.Desk.{Act, Reply, Refuse, act_entry, import_entry, reply_of, DeskEntry as Change}
use Rattle.ds_desk.specs.declared.fault.EntryFault.{EntryFault}
use Rattle.ds_desk.specs.declared.fault.EntryFault.TheVariants as entry_faults
use Rattle.ds_desk.specs.declared.fault.DeskFault.{DeskFault}
use Rattle.ds_desk.specs.declared.fault.DeskFault.TheVariants as desk_faults
use Rattle.ds_desk.specs.Signing.{desk_scheme, desk_plan}
use Rattle.ds_desk.specs.Desks.{DeskView, entered}

-- the entry of an act, and the answer by it
abbrev pub entry_for : Scheme → HostPlan → DeskView → Act → Change
entry_for s plan k act = act_entry (desk_scheme s) (desk_plan plan k.here k.key) k.desk act

abbrev pub reply_for : Scheme → HostPlan → DeskView → Act → Reply
reply_for s plan k act = reply_of (desk_scheme s) (desk_plan plan k.here k.key) k.desk (entry_for s plan k act)

-- the same of an import, by the certificate that its bytes spell
abbrev pub import_for : Scheme → DeskView → Option Cert → Change
import_for s k read = import_entry (desk_scheme s) k.desk read

abbrev pub reply_to : Scheme → HostPlan → DeskView → Option Cert → Reply
reply_to s plan k read = reply_of (desk_scheme s) (desk_plan plan k.here k.key) k.desk (import_for s k read)

-- The answer is the model's; where memory ran out it is none.
abbrev pub Answers : {A : Type 0} → (A → Reply) → Result A EntryFault → Reply → Type 0
Answers told (Ok a) reply = reply ≡ told a
Answers told (Err (entry_faults.Refused rule)) reply = reply ≡ Refuse rule
Answers told (Err entry_faults.NoMemory) reply = Unit {0}

-- The act's entry was made, and no other; where memory ran out none was.
abbrev pub Enters : {A : Type 0} → Result A EntryFault → (old : DeskView) → (after : DeskView) → (new : DeskView) → Type 0
Enters (Ok a) old after new = new ≡ after
Enters (Err (entry_faults.Refused rule)) old after new = new ≡ after
Enters (Err entry_faults.NoMemory) old after new = new ≡ old

-- the same of a call over a keeper
abbrev pub AnswersOver : {A : Type 0} → (A → Reply) → Result A DeskFault → Reply → Type 0
AnswersOver told (Ok a) reply = reply ≡ told a
AnswersOver told (Err (desk_faults.Refused rule)) reply = reply ≡ Refuse rule
AnswersOver told (Err desk_faults.KeeperFault) reply = Unit {0}
AnswersOver told (Err desk_faults.NoMemory) reply = Unit {0}

abbrev pub EntersOver : {A : Type 0} → Result A DeskFault → (old : DeskView) → (after : DeskView) → (new : DeskView) → Type 0
EntersOver (Ok a) old after new = new ≡ after
EntersOver (Err (desk_faults.Refused rule)) old after new = new ≡ after
EntersOver (Err desk_faults.KeeperFault) old after new = new ≡ old
EntersOver (Err desk_faults.NoMemory) old after new = new ≡ old

-- A rule that fails is the answer; where none fails the call is done, unless memory runs out.
abbrev pub Ruled : {A : Type 0} → Result A EntryFault → Option Rule → Type 0
Ruled (Ok a) rule = rule ≡ None
Ruled (Err (entry_faults.Refused refused)) rule = rule ≡ Some refused
Ruled (Err entry_faults.NoMemory) rule = Unit {0}
