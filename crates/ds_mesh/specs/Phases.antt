-- What hosts at work have done, in one world.
use Rattle.std.specs.Prelude.{◌≡◌, ℕ, List, [], ◌++◌, Some, slice_get}
use Rattle.ds_plan.specs.declared.event.Event.{Event}
use Rattle.ds_model.specs.Views.{IsQuiet}
use Rattle.ds_setup.specs.Plans.{plan_of}
use Rattle.ds_scheme.specs.TheScheme.{scheme}
use Rattle.ds_world.specs.Worlds.{WorldState, world_of}
use Rattle.ds_mesh.specs.declared.task.Task.{Task}
use Rattle.ds_mesh.specs.Workings.{Happened}

-- a task as a phase begins
pub record IsFreshTask (stamp left host : ℕ) (t : Task) : Type 0 where
  pub host_is : t.host ≡ host
  pub stamp_is : t.stamp ≡ stamp
  pub left_is : t.left ≡ left
  pub events_none : t.events.items ≡ []

-- one for each host, by the hosts' places
abbrev pub AreFreshTasks : (stamp left : ℕ) → List Task → Type 0
AreFreshTasks stamp left tasks = (host : ℕ) (t : Task) → slice_get tasks host ≡ Some t → IsFreshTask stamp left host t

-- these events more are in the list, and they happened
pub record Went (w v : WorldState) (events events' : List Event) : Type 0 where
  pub more : List Event
  pub grew : events' ≡ events ++ more
  pub happened : Happened w v more

-- nothing is left to do
abbrev pub IsAtRest : WorldState → Type 0
IsAtRest w = IsQuiet scheme (plan_of w.doc) (world_of w)
