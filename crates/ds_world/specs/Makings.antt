-- A schedule as the code makes it, and the parts of the canonical schedule by a document.
use Rattle.std.specs.Prelude.{◌≡◌, ℕ, ◌+◌, ◌^◌, ◌<◌, List, ◌++◌, length, map}
use Rattle.ds_model.specs.Step.{Event, run}
use Rattle.ds_model.specs.Schedule.{Schedule, Test, all_connected, all_tried, changes, connected, delivered, round, rounds, tried, turned}
use Rattle.ds_plan.specs.declared.doc.Doc.{Doc}
use Rattle.ds_plan.specs.declared.event.Event.{Event as DocEvent}
use Rattle.ds_setup.specs.Events.{meant}
use Rattle.ds_setup.specs.Plans.{plan_of}
use Rattle.ds_scheme.specs.TheScheme.{scheme}
use Rattle.ds_world.specs.declared.scheduling.Making.{Making}
use Rattle.ds_world.specs.Worlds.{WorldState, world_of}
use Rattle.ds_world.specs.Hands.{AreSpelledAfter, HandsAreSpelled}

-- the world that it has come to, its events, and how many more it may have
abbrev pub schedule_of : WorldState → Making → Schedule
schedule_of w m = record { world = world_of w; events = map meant m.events; left = m.left }

-- the world may count as many events more
abbrev pub HasRoom : WorldState → Making → Type 0
HasRoom w m = w.count + m.left < 2 ^ 64

-- The schedule went on: these events more happened, one after another, each is counted, and where messages in hand had spellings
-- they have them all through.
pub record GoesOn (w : WorldState) (m : Making) (v : WorldState) (n : Making) : Type 0 where
  pub more : List DocEvent
  pub events : n.events ≡ m.events ++ more
  pub world : world_of v ≡ run scheme (plan_of w.doc) (world_of w) (map meant more)
  pub spelled : HandsAreSpelled (world_of w) → AreSpelledAfter (plan_of w.doc) (world_of w) (map meant more)
  pub count : v.count ≡ w.count + length more

-- the test by which an event changes something or is still
unfoldable pub test_of : Doc → Test
test_of d = changes scheme (plan_of d)

-- THE PARTS

abbrev pub tries : Doc → Event → Schedule → Schedule
tries d e sch = tried (test_of d) scheme (plan_of d) e sch

abbrev pub tries_all : Doc → List Event → Schedule → Schedule
tries_all d events sch = all_tried (test_of d) scheme (plan_of d) events sch

abbrev pub delivers : Doc → (conn most : ℕ) → Schedule → Schedule
delivers d k most sch = delivered (test_of d) scheme (plan_of d) k most sch

abbrev pub takes_turns : Doc → (conn budget most : ℕ) → Schedule → Schedule
takes_turns d k budget most sch = turned (test_of d) scheme (plan_of d) k budget most sch

abbrev pub connects : Doc → (budget conn : ℕ) → Schedule → Schedule
connects d budget k sch = connected (test_of d) scheme (plan_of d) budget k sch

abbrev pub connects_all : Doc → (budget conns : ℕ) → Schedule → Schedule
connects_all d budget conns sch = all_connected (test_of d) scheme (plan_of d) budget conns sch

abbrev pub goes_round : Doc → (budget : ℕ) → Schedule → Schedule
goes_round d budget sch = round (test_of d) scheme (plan_of d) budget sch

abbrev pub goes_rounds : Doc → (budget most : ℕ) → Schedule → Schedule
goes_rounds d budget most sch = rounds (test_of d) scheme (plan_of d) budget most sch
