-- What is promised of every run, at the signatures, chains and spelling of this repository.
use Rattle.std.specs.Prelude.{◌≡◌, ◌≢◌, ◌⊎◌, ℕ, true, List, Some}
use Rattle.ds_label.specs.declared.category.Category.{Category}
use Rattle.ds_label.specs.Flow.{has}
use Rattle.ds_label.specs.Names.{by_name, is_secrecy}
use Rattle.ds_model.specs.Mailbox.{PutIn}
use Rattle.ds_model.specs.Plan.{Plan}
use Rattle.ds_model.specs.World.{Mail, Process, World}
use Rattle.ds_model.specs.Setup.{IsSetup}
use Rattle.ds_model.specs.Step.{Event, Step, run, step}
use Rattle.ds_model.specs.Access.{InBox, access}
use Rattle.ds_model.specs.Lawful.{PutsHere}
use Rattle.ds_model.specs.Views.{proc_at, desk_at}
use Rattle.ds_delivery.specs.Puts.{IsFrom}
use Rattle.ds_delivery.specs.Checked.{Checked}
use Rattle.ds_noninterference.specs.Observations.{Released, Release, mark}
use Rattle.ds_scheme.specs.TheScheme.{scheme}

-- Whatever message an event of a run puts into a mailbox, a process of the host puts it there, or a connection does.
abbrev pub TwoWaysIn : Type 0
TwoWaysIn = (plan : Plan) (start : World) (before : List Event) (e : Event) (h b : ℕ) (mail : Mail Category) →
    access scheme plan (run scheme plan start before) e h ≡ InBox b (PutIn mail) →
    ((p : ℕ) × PutsHere scheme plan start h p b mail before e) ⊎ IsFrom scheme plan start h b mail before e

-- in every world the five checks of a message stop it by the first rule that fails, or let it go on
abbrev pub FiveChecks : Type 0
FiveChecks = (plan : Plan) (w : World) → Checked scheme plan w

-- a process that releases a message without the category owns the category
abbrev pub OwnersRelease : Type 0
OwnersRelease = (c : Category) (trusted : List ℕ) (plan : Plan) (start : World) (events : List Event) (e : Event)
    (h p : ℕ) (r : Released) →
    is_secrecy c.kind ≡ true → IsSetup scheme plan start →
    mark c trusted plan (run scheme plan start events) e ≡ Release h p r →
    (x : Process) × (proc_at (run scheme plan start events) h p ≡ Some x) × (has by_name c x.own ≡ true)

-- a process that changes its host's public state owns each secrecy category of its label
abbrev pub OwnersAct : Type 0
OwnersAct = (plan : Plan) (w : World) (h p : ℕ) (x : Process) (c : Category) →
    proc_at w h p ≡ Some x → desk_at (step scheme plan w (Step h p)) h ≢ desk_at w h →
    is_secrecy c.kind ≡ true → has by_name c x.label ≡ true → has by_name c x.own ≡ true
