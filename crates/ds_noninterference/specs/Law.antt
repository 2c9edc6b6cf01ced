-- The two-run law.
use Rattle.std.specs.Prelude.{◌≡◌, ℕ, true, false, List}
use Rattle.ds_label.specs.declared.category.Category.{Category}
use Rattle.ds_label.specs.Names.{is_secrecy}
use Rattle.ds_model.specs.Scheme.{Scheme}
use Rattle.ds_model.specs.Plan.{Plan}
use Rattle.ds_model.specs.World.{World}
use Rattle.ds_model.specs.Setup.{IsSetup}
use Rattle.ds_model.specs.Step.{Event, run}
use Rattle.ds_model.specs.Views.{proc_at, view_of_proc, view_of_host, desk_at, arrived_at}
use Rattle.ds_model.specs.Text.{Format}
use Rattle.ds_noninterference.specs.High.{is_in, high_at, high_conn}
use Rattle.ds_noninterference.specs.Observations.{marks}
use Rattle.ds_noninterference.specs.Alike.{AlikeWorlds}
use Rattle.ds_noninterference.specs.Premises.{IsScheme, Fits, Obeys, Unforged}
use Rattle.ds_noninterference.specs.Outside.{outside_sections}

-- Two runs agree for a category and trusted hosts where their worlds at the start are equal but for what is high, and
-- their marks are equal once those that are high are left out.
pub record Agree (s : Scheme) (c : Category) (trusted : List ℕ) (plan : Plan) (v w : World) (one two : List Event) : Type 0 where
  pub start : AlikeWorlds c trusted plan v w
  pub same_marks : marks s c trusted plan v one ≡ marks s c trusted plan w two

-- two runs that agree, for a secrecy category, from setup, of trusted hosts that obey, with nothing forged
pub record Premises (s : Scheme) (c : Category) (trusted : List ℕ) (plan : Plan) (v w : World) (one two : List Event) : Type 0 where
  pub secret : is_secrecy c.kind ≡ true
  pub fits : Fits plan
  pub start_one : IsSetup s plan v
  pub start_two : IsSetup s plan w
  pub agree : Agree s c trusted plan v w one two
  pub obeys_one : Obeys s c trusted plan v one
  pub obeys_two : Obeys s c trusted plan w two
  pub unforged_one : Unforged s c trusted plan v one
  pub unforged_two : Unforged s c trusted plan w two

-- a claim about the worlds at the end of each two runs that meet the premises, over a scheme that has what the law
-- uses
abbrev pub AtEnd : (Category → List ℕ → Plan → World → World → Type 0) → Type 0
AtEnd Claim = (s : Scheme) (c : Category) (trusted : List ℕ) (plan : Plan) (v w : World) (one two : List Event) →
    IsScheme s plan → Premises s c trusted plan v w one two →
    Claim c trusted plan (run s plan v one) (run s plan w two)

-- each process that isn't high at the end of the first run has equal views
abbrev pub SameProcesses : Category → List ℕ → Plan → World → World → Type 0
SameProcesses c trusted plan v w = (h p : ℕ) → high_at c (is_in trusted h) (proc_at v h p) ≡ false →
    view_of_proc v h p ≡ view_of_proc w h p

-- each host that isn't trusted has equal views
abbrev pub SameHosts : Category → List ℕ → Plan → World → World → Type 0
SameHosts c trusted plan v w = (h : ℕ) → is_in trusted h ≡ false → view_of_host plan v h ≡ view_of_host plan w h

-- each host's public state is equal, a trusted one's too
abbrev pub SameDesks : Category → List ℕ → Plan → World → World → Type 0
SameDesks c trusted plan v w = (h : ℕ) → desk_at v h ≡ desk_at w h

-- each connection that isn't high has equal arrived bytes
abbrev pub SameArrivals : Category → List ℕ → Plan → World → World → Type 0
SameArrivals c trusted plan v w = (k : ℕ) → high_conn c trusted plan k ≡ false →
    arrived_at plan v k ≡ arrived_at plan w k

-- the sections of a text that aren't high are equal, however things are printed
abbrev pub SameSections : Category → List ℕ → Plan → World → World → Type 0
SameSections c trusted plan v w = (f : Format) →
    outside_sections f c trusted plan v ≡ outside_sections f c trusted plan w
