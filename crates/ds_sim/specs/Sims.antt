-- The text of a document's run.
use Rattle.std.specs.Prelude.{◌≡◌, ℕ, List, [], Option, Some, None, length, map, replicate}
use Rattle.ds_plan.specs.Documents.{IsDocument}
use Rattle.ds_hosts.specs.Nodes.{NodeState}
use Rattle.ds_boot.specs.Nodes.{AreHostsOf}
use Rattle.ds_plan.specs.declared.doc.Doc.{Doc}
use Rattle.ds_plan.specs.declared.event.Event.{Event as DocEvent}
use Rattle.ds_model.specs.Plan.{Plan}
use Rattle.ds_model.specs.World.{World}
use Rattle.ds_model.specs.Step.{Event, run}
use Rattle.ds_model.specs.Lawful.{Lawful}
use Rattle.ds_model.specs.Schedule.{IsCanonical}
use Rattle.ds_model.specs.Text.{text_of}
use Rattle.ds_model.specs.Print.{printed}
use Rattle.ds_scheme.specs.TheScheme.{scheme}
use Rattle.ds_setup.specs.Plans.{plan_of}
use Rattle.ds_setup.specs.Starts.{start_of}
use Rattle.ds_setup.specs.Events.{IsScheduled, meant}
use Rattle.ds_world.specs.Worlds.{WorldState, IsFresh, IsWorld, routes_of, world_of}
use Rattle.ds_report.specs.Printings.{printing_of}

-- the text of the plain world that a document's setup comes to by these events
abbrev pub text_of_run : Doc → List Event → List ℕ
text_of_run d events = text_of (printed (printing_of d) (plan_of d)) (plan_of d) (run scheme (plan_of d) (start_of d) events)

-- It is the text of the document's run: by the events that the document gives, or else by those of the canonical schedule. What
-- that run delivers it delivers only where the rules hold.
pub record IsTextOf (d : Doc) (text : List ℕ) : Type 0 where
  pub events : List Event
  pub scheduled : IsScheduled d events
  pub lawful : Lawful scheme (plan_of d) (start_of d) events
  pub printed : text ≡ text_of_run d events

-- the document as it begins: its events are apart
abbrev pub without_events : Doc → Doc
without_events d = record d { events = None }

-- what a run does: the events that are given, or else those of the canonical schedule with so many at most
abbrev pub IsDoneBy : (budget : ℕ) → Plan → World → Option (List DocEvent) → List Event → Type 0
IsDoneBy budget plan w (Some given) events = events ≡ map meant given
IsDoneBy budget plan w None events = IsCanonical scheme plan budget w events

-- the text of a run as it stands
abbrev pub text_now : WorldState → List ℕ
text_now w = text_of (printed (printing_of w.doc) (plan_of w.doc)) (plan_of w.doc) (world_of w)

-- what happened between two states of a run
pub record Happened (budget : ℕ) (given : Option (List DocEvent)) (old new : WorldState) : Type 0 where
  pub events : List Event
  pub done : IsDoneBy budget (plan_of old.doc) (world_of old) given events
  pub world : world_of new ≡ run scheme (plan_of old.doc) (world_of old) events
  pub lawful : IsFresh old → Lawful scheme (plan_of old.doc) (start_of old.doc) events
  pub doc : new.doc ≡ old.doc

-- SETUP

-- the run of these hosts before its first event: nothing stands on a link
abbrev pub begun_with : Doc → List NodeState → WorldState
begun_with d all = record { doc = d; nodes = all; links = replicate (length (routes_of d)) []; count = 0 }

-- a document's hosts as they begin are a run, and its world is setup's
pub record BeginsAsSetup (d : Doc) (all : List NodeState) : Type 0 where
  pub kept : IsWorld (begun_with d all)
  pub start : world_of (begun_with d all) ≡ start_of d

abbrev pub EachBeginsAsSetup : Type 0
EachBeginsAsSetup = (d : Doc) (all : List NodeState) → IsDocument d → AreHostsOf d all → BeginsAsSetup d all
