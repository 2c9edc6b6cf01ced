-- From what a run did to its summary.
use Rattle.std.proofs.Common.{◌≡◌, ◌∙◌, ℕ, suc, List, [], ◌∷◌, refl, Option, None, map, length, sym, ap, ap₂, subst}
use Rattle.ds_plan.specs.Documents.{IsDocument}
use Rattle.ds_plan.specs.declared.doc.Doc.{Doc}
use Rattle.ds_plan.specs.declared.event.Event.{Event as DocEvent}
use Rattle.ds_model.specs.Plan.{Plan}
use Rattle.ds_model.specs.World.{World}
use Rattle.ds_model.specs.Step.{Event, run}
use Rattle.ds_model.specs.Lawful.{Lawful}
use Rattle.ds_model.specs.Schedule.{IsCanonical}
use Rattle.ds_model.specs.Text.{text_of}
use Rattle.ds_model.specs.Print.{printed}
use Rattle.ds_scheme.specs.TheScheme.{scheme}
use Rattle.ds_setup.specs.Plans.{plan_of}
use Rattle.ds_setup.specs.Starts.{start_of}
use Rattle.ds_setup.specs.Events.{IsScheduledBy, meant}
use Rattle.ds_world.specs.Worlds.{WorldState, IsFresh, world_of}
use Rattle.ds_report.specs.Printings.{printing_of}
use Rattle.ds_sim.specs.Sims.{text_now, text_of_run}
use Rattle.ds_summary.specs.Counts.{count, world_counts}
use Rattle.ds_summary.specs.Summaries.{summary}
use Rattle.ds_summary.specs.Runs.{IsSummaryOf}

-- what a world prints, by the document and the plain world that it is
abbrev text_by : Doc → World → List ℕ
text_by d w = text_of (printed (printing_of d) (plan_of d)) (plan_of d) w

same_length : (given : List DocEvent) → length (map meant given) ≡ length given
same_length [] = refl
same_length (e ∷ given) = ap suc (same_length given)

pub is_summary : (number : ℕ) (d : Doc) (old new : WorldState) (given : List DocEvent) (made : List ℕ) → IsDocument d → d.events ≡ None
    → old.doc ≡ d → world_of old ≡ start_of d
    → IsCanonical scheme (plan_of old.doc) d.budget (world_of old) (map meant given)
    → world_of new ≡ run scheme (plan_of old.doc) (world_of old) (map meant given)
    → (IsFresh old → Lawful scheme (plan_of old.doc) (start_of old.doc) (map meant given))
    → new.doc ≡ old.doc
    → made ≡ summary number (length given) (count (world_counts (world_of new))) (text_now new)
    → IsSummaryOf number d made
unfolding printing_of
is_summary number d old new given made document none doc start canonical goes lawful same printing =
    let events : List Event = map meant given in
    let plan : plan_of old.doc ≡ plan_of d = ap plan_of doc in
    let fresh : IsFresh old = record { document = subst IsDocument (sym doc) document; start = start ∙ ap start_of (sym doc) } in
    let ends : world_of new ≡ run scheme (plan_of d) (start_of d) events = goes ∙ ap₂ (λ (p : Plan) (w : World). run scheme p w events) plan start in
    let text : text_now new ≡ text_of_run d events = ap (λ (q : Doc). text_by q (world_of new)) (same ∙ doc) ∙ ap (text_by d) ends in
    record {
      events = events;
      scheduled = subst (λ (o : Option (List DocEvent)). IsScheduledBy d o events) (sym none)
          (subst (λ (p : Plan). IsCanonical scheme p d.budget (start_of d) events) plan
          (subst (λ (w : World). IsCanonical scheme (plan_of old.doc) d.budget w events) start canonical));
      lawful = subst (λ (q : Doc). Lawful scheme (plan_of q) (start_of q) events) doc (lawful fresh);
      printed =
          printing
          ∙ ap (λ (n : ℕ). summary number n (count (world_counts (world_of new))) (text_now new)) (sym (same_length given))
          ∙ ap (λ (t : List ℕ). summary number (length events) (count (world_counts (world_of new))) t) text
          ∙ ap (λ (w : World). summary number (length events) (count (world_counts w)) (text_of_run d events)) ends;
    }
