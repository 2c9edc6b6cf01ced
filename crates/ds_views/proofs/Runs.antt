-- A run of a copy of a document, and what an actor sees at its end.
use Rattle.std.proofs.Common.{◌≡◌, ◌∙◌, List, Option, Some, ap, ap₂, subst}
use Rattle.std.specs.Prelude.{Result, IfOk}
use Rattle.ds_script.specs.declared.actor.Actor.{Actor}
use Rattle.ds_model.specs.Plan.{Plan}
use Rattle.ds_model.specs.World.{World}
use Rattle.ds_model.specs.Step.{Event, run}
use Rattle.ds_plan.specs.declared.doc.Doc.{Doc}
use Rattle.ds_scheme.specs.TheScheme.{scheme}
use Rattle.ds_setup.specs.Plans.{plan_of}
use Rattle.ds_setup.specs.Starts.{start_of}
use Rattle.ds_law.specs.TwoDocuments.{end_of}
use Rattle.ds_world.specs.Worlds.{WorldState, world_of}
use Rattle.ds_sim.specs.Sims.{without_events}
use Rattle.ds_views.specs.declared.actor_view.View.{View}
use Rattle.ds_views.specs.Views.{view_of}

pub ends_so : (d b : Doc) (old new : WorldState) (events : List Event)
    → b ≡ without_events d → old.doc ≡ b → world_of old ≡ start_of b → world_of new ≡ run scheme (plan_of old.doc) (world_of old) events
    → world_of new ≡ end_of d events
ends_so d b old new events copied doc start ran =
    ran ∙ ap₂ (λ (p : Plan) (w : World). run scheme p w events) (ap plan_of (doc ∙ copied)) (start ∙ ap start_of copied)

pub seen_so : {E : Type 0} (d : Doc) (end : WorldState) (events : List Event) (a : Actor) (r : Result View E)
    → end.doc ≡ without_events d → world_of end ≡ end_of d events → IfOk r (λ v. view_of (plan_of end.doc) (world_of end) a ≡ Some v)
    → IfOk r (λ v. view_of (plan_of d) (end_of d events) a ≡ Some v)
seen_so d end events a r doc ends seen =
    subst (λ (o : Option View). IfOk r (λ v. o ≡ Some v)) (ap₂ (λ (p : Plan) (w : World). view_of p w a) (ap plan_of doc) ends) seen
