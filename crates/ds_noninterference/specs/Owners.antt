-- Only owners release: a message without the category, or the public state of a host.
use Rattle.std.specs.Prelude.{◌≡◌, ◌≢◌, ℕ, true, List, Some}
use Rattle.ds_label.specs.declared.category.Category.{Category}
use Rattle.ds_label.specs.Flow.{has}
use Rattle.ds_label.specs.Names.{is_secrecy, by_name}
use Rattle.ds_model.specs.Scheme.{Scheme}
use Rattle.ds_model.specs.Plan.{Plan}
use Rattle.ds_model.specs.World.{Process, World}
use Rattle.ds_model.specs.Setup.{IsSetup}
use Rattle.ds_model.specs.Step.{Event, Step, step, run}
use Rattle.ds_model.specs.Views.{proc_at, desk_at}
use Rattle.ds_noninterference.specs.Observations.{Released, Release, mark}

-- at each event of each run from setup, a process that releases owns the category
abbrev pub OnlyOwnersRelease : Type 0
OnlyOwnersRelease = (s : Scheme) (c : Category) (trusted : List ℕ) (plan : Plan) (start : World) (events : List Event) (e : Event)
    (h p : ℕ) (r : Released) →
    is_secrecy c.kind ≡ true → IsSetup s plan start →
    mark c trusted plan (run s plan start events) e ≡ Release h p r →
    (x : Process) × (proc_at (run s plan start events) h p ≡ Some x) × (has by_name c x.own ≡ true)

-- A process whose step changes its host's desk, which is a public act, owns each secrecy category of its label.
abbrev pub OnlyOwnersAct : Type 0
OnlyOwnersAct = (s : Scheme) (plan : Plan) (w : World) (h p : ℕ) (x : Process) (c : Category) →
    proc_at w h p ≡ Some x → desk_at (step s plan w (Step h p)) h ≢ desk_at w h →
    is_secrecy c.kind ≡ true → has by_name c x.label ≡ true → has by_name c x.own ≡ true
