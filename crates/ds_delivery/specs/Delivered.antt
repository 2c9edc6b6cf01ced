-- Delivered only where the rules hold, over every run.
use Rattle.std.specs.Prelude.{Bool, List}
use Rattle.ds_msg.specs.declared.message.Message.{Message}
use Rattle.ds_model.specs.Scheme.{Scheme}
use Rattle.ds_model.specs.Plan.{Plan}
use Rattle.ds_model.specs.World.{World}
use Rattle.ds_model.specs.Step.{Event}
use Rattle.ds_model.specs.Lawful.{Lawful}
use Rattle.ds_model.specs.Setup.{IsSetup}
use Rattle.ds_delivery.specs.Premises.{IsReadable, Spells}

-- a run from setup, over a scheme that reads what was written, of messages that have spellings
pub record Premises (s : Scheme) (has_spelling : Message →
    Bool) (plan : Plan) (start : World) (events : List Event) : Type 0 where
  pub scheme : IsReadable s has_spelling plan
  pub setup : IsSetup s plan start
  pub spells : Spells s has_spelling plan start events

-- each such run is lawful
abbrev pub DeliveredLawfully : Type 0
DeliveredLawfully = (s : Scheme) (has_spelling : Message → Bool) (plan : Plan) (start : World) (events : List Event) →
    Premises s has_spelling plan start events → Lawful s plan start events
