-- The two theorems about every scheme, of this one: what is left of their premises.
use Rattle.std.specs.Prelude.{ℕ, List}
use Rattle.ds_label.specs.declared.category.Category.{Category}
use Rattle.ds_model.specs.Plan.{Plan}
use Rattle.ds_model.specs.World.{World}
use Rattle.ds_model.specs.Setup.{IsSetup}
use Rattle.ds_model.specs.Step.{Event, run}
use Rattle.ds_model.specs.Lawful.{Lawful}
use Rattle.ds_noninterference.specs.Law.{Premises}
use Rattle.ds_delivery.specs.Premises.{Spells}
use Rattle.ds_scheme.specs.Spelled.{has_spelling, HasSpelledLanes}
use Rattle.ds_scheme.specs.TheScheme.{scheme}

-- each run from setup, over a plan whose lanes have spellings, of messages that have spellings, is lawful
abbrev pub IsDeliveredLawfully : Type 0
IsDeliveredLawfully = (plan : Plan) (start : World) (events : List Event) →
    HasSpelledLanes plan → IsSetup scheme plan start → Spells scheme has_spelling plan start events →
    Lawful scheme plan start events

-- a claim about the worlds at the end of each two runs that meet the premises, over a plan whose lanes have spellings
abbrev pub AfterBoth : (Category → List ℕ → Plan → World → World → Type 0) → Type 0
AfterBoth Claim = (c : Category) (trusted : List ℕ) (plan : Plan) (v w : World) (one two : List Event) →
    HasSpelledLanes plan → Premises scheme c trusted plan v w one two →
    Claim c trusted plan (run scheme plan v one) (run scheme plan w two)
