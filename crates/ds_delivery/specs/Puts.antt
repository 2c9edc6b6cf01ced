-- Each message that gets into a mailbox: by one of the two ways of which the theorem speaks.
use Rattle.std.specs.Prelude.{◌≡◌, ◌⊎◌, ℕ, List}
use Rattle.ds_label.specs.declared.category.Category.{Category}
use Rattle.ds_cert.specs.declared.lane.LaneCert.{LaneCert}
use Rattle.ds_model.specs.Scheme.{Scheme}
use Rattle.ds_model.specs.Plan.{Plan, conn_plan}
use Rattle.ds_model.specs.Mailbox.{PutIn}
use Rattle.ds_model.specs.World.{Mail, World, Passed}
use Rattle.ds_model.specs.Step.{Event, run}
use Rattle.ds_model.specs.Access.{InBox, access}
use Rattle.ds_model.specs.Lawful.{PutsHere, PutsFrom}

-- a connection to the host puts it there
pub record IsFrom (s : Scheme) (plan : Plan) (start : World) (h b : ℕ) (mail : Mail Category) (before : List Event) (e : Event) : Type 0 where
  pub conn : ℕ
  pub lane : LaneCert
  pub passed : Passed
  pub to : (conn_plan plan conn).host ≡ h
  pub says : mail ≡ passed.mail
  pub puts : PutsFrom s plan start conn b lane passed before e

-- whatever message an event of a run puts into a mailbox, a process of the host puts it there, or a connection does
abbrev pub EachIsPut : Type 0
EachIsPut = (s : Scheme) (plan : Plan) (start : World) (before : List Event) (e : Event) (h b : ℕ) (mail : Mail Category) →
    access s plan (run s plan start before) e h ≡ InBox b (PutIn mail) →
    ((p : ℕ) × PutsHere s plan start h p b mail before e) ⊎ IsFrom s plan start h b mail before e
