-- The text of a document's run in threads: its events, and the text of the plain world that setup comes to by them.
use Rattle.std.specs.Prelude.{◌≡◌, ◌⊎◌, ℕ, ◌≤◌, List, ◌++◌, length, map, flat_map, codes, decimal}
use Rattle.ds_plan.specs.declared.doc.Doc.{Doc}
use Rattle.ds_plan.specs.declared.event.Event.{Event as DocEvent}
use Rattle.ds_model.specs.Lawful.{Lawful}
use Rattle.ds_model.specs.Step.{run}
use Rattle.ds_model.specs.Views.{IsQuiet}
use Rattle.ds_scheme.specs.TheScheme.{scheme}
use Rattle.ds_setup.specs.Events.{meant}
use Rattle.ds_setup.specs.Plans.{plan_of}
use Rattle.ds_setup.specs.Starts.{start_of}
use Rattle.ds_report.specs.Events.{event_line}
use Rattle.ds_sim.specs.Sims.{text_of_run}

-- how many events there are, and each on a line of its own
abbrev pub event_lines : Doc → List DocEvent → List ℕ
event_lines d events = codes "mesh " ++ (decimal (length events) ++ (codes "\n" ++ flat_map (event_line d) events))

abbrev pub mesh_text : Doc → List DocEvent → List ℕ
mesh_text d events = event_lines d events ++ text_of_run d (map meant events)

-- It is the text of a run of the document, by events of which there are at most as many as the budget; where there are fewer, nothing
-- is left to do at their end. What that run delivers it delivers only where the rules hold.
pub record IsMeshTextOf (d : Doc) (text : List ℕ) : Type 0 where
  pub events : List DocEvent
  pub few : length events ≤ d.budget
  pub ends : (length events ≡ d.budget) ⊎ IsQuiet scheme (plan_of d) (run scheme (plan_of d) (start_of d) (map meant events))
  pub lawful : Lawful scheme (plan_of d) (start_of d) (map meant events)
  pub printed : text ≡ mesh_text d events
