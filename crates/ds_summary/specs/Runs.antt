-- The summary of a document's run.
use Rattle.std.specs.Prelude.{◌≡◌, ℕ, List, length}
use Rattle.ds_plan.specs.declared.doc.Doc.{Doc}
use Rattle.ds_model.specs.Step.{Event, run}
use Rattle.ds_model.specs.Lawful.{Lawful}
use Rattle.ds_scheme.specs.TheScheme.{scheme}
use Rattle.ds_setup.specs.Plans.{plan_of}
use Rattle.ds_setup.specs.Starts.{start_of}
use Rattle.ds_setup.specs.Events.{IsScheduled}
use Rattle.ds_sim.specs.Sims.{text_of_run}
use Rattle.ds_summary.specs.Counts.{count, world_counts}
use Rattle.ds_summary.specs.Summaries.{summary}

-- the summary of the plain world that a document's setup comes to by these events, with the digest of that run's text
abbrev pub summary_of_run : (number : ℕ) → Doc → List Event → List ℕ
summary_of_run number d events =
    summary number (length events) (count (world_counts (run scheme (plan_of d) (start_of d) events))) (text_of_run d events)

-- It is the summary of the document's run, and what that run delivers it delivers only where the rules hold.
pub record IsSummaryOf (number : ℕ) (d : Doc) (summary : List ℕ) : Type 0 where
  pub events : List Event
  pub scheduled : IsScheduled d events
  pub lawful : Lawful scheme (plan_of d) (start_of d) events
  pub printed : summary ≡ summary_of_run number d events
