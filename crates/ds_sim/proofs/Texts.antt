-- From what a run did to its text.
use Rattle.std.proofs.Common.{◌≡◌, ◌∙◌, ℕ, List, Option, Some, None, sym, ap, ap₂, subst}
use Rattle.ds_plan.specs.Documents.{IsDocument}
use Rattle.ds_plan.specs.declared.doc.Doc.{Doc}
use Rattle.ds_plan.specs.declared.event.Event.{Event as DocEvent}
use Rattle.ds_model.specs.Plan.{Plan}
use Rattle.ds_model.specs.World.{World}
use Rattle.ds_model.specs.Step.{Event, run}
use Rattle.ds_model.specs.Lawful.{Lawful}
use Rattle.ds_model.specs.Schedule.{IsCanonical}
use Rattle.ds_model.specs.Text.{text_of}
use Rattle.ds_model.specs.Print.{printed}
use Rattle.ds_scheme.specs.TheScheme.{scheme}
use Rattle.ds_setup.specs.Plans.{plan_of}
use Rattle.ds_setup.specs.Starts.{start_of}
use Rattle.ds_setup.specs.Events.{IsScheduledBy}
use Rattle.ds_world.specs.Worlds.{WorldState, IsFresh, world_of}
use Rattle.ds_report.specs.Printings.{printing_of}
use Rattle.ds_sim.specs.Sims.{Happened, IsDoneBy, IsTextOf, text_now, without_events}

-- the events of a run from setup are the document's
by_given : (d : Doc) (plan : Plan) (w : World) (o : Option (List DocEvent)) (events : List Event)
    → plan ≡ plan_of d → w ≡ start_of d → IsDoneBy d.budget plan w o events → IsScheduledBy d o events
by_given d plan w (Some given) events p s done = done
by_given d plan w None events p s done =
    subst (λ (q : Plan). IsCanonical scheme q d.budget (start_of d) events) p
    (subst (λ (x : World). IsCanonical scheme plan d.budget x events) s done)

pub is_text : (d b : Doc) (given : Option (List DocEvent)) (old new : WorldState) (text : List ℕ)
    → IsDocument b → b ≡ without_events d → given ≡ d.events → old.doc ≡ b → world_of old ≡ start_of b → Happened d.budget given old new
    → text ≡ text_now new → IsTextOf d text
unfolding printing_of
is_text d b given old new text documented apart same doc start h printing =
    let plan : plan_of old.doc ≡ plan_of d = ap plan_of (doc ∙ apart) in
    let begins : world_of old ≡ start_of d = start ∙ ap start_of apart in
    let fresh : IsFresh old = record { document = subst IsDocument (sym doc) documented; start = start ∙ ap start_of (sym doc) } in
    let ends : world_of new ≡ run scheme (plan_of d) (start_of d) h.events =
    h.world ∙ ap₂ (λ (p : Plan) (w : World). run scheme p w h.events) plan begins in
    record {
      events = h.events;
      scheduled = by_given d (plan_of old.doc) (world_of old) d.events h.events plan begins
          (subst (λ (o : Option (List DocEvent)). IsDoneBy d.budget (plan_of old.doc) (world_of old) o h.events) same h.done);
      lawful = subst (λ (x : Doc). Lawful scheme (plan_of x) (start_of x) h.events) (doc ∙ apart) (h.lawful fresh);
      printed =
          printing
          ∙ ap (λ (q : Doc). text_of (printed (printing_of q) (plan_of q)) (plan_of q) (world_of new)) (h.doc ∙ doc ∙ apart)
          ∙ ap (text_of (printed (printing_of d) (plan_of d)) (plan_of d)) ends;
    }
