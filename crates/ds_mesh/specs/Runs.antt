-- A run in threads, by the events that it had.
use Rattle.std.specs.Prelude.{◌≡◌, ◌⊎◌, ℕ, ◌≤◌, List, length}
use Rattle.ds_plan.specs.declared.event.Event.{Event}
use Rattle.ds_world.specs.Worlds.{WorldState}
use Rattle.ds_mesh.specs.Workings.{Happened}
use Rattle.ds_mesh.specs.Phases.{IsAtRest}

-- These events happened, one after another; there are at most so many, and where there are fewer nothing is left to do.
pub record RanTo (budget : ℕ) (w v : WorldState) (events : List Event) : Type 0 where
  pub happened : Happened w v events
  pub few : length events ≤ budget
  pub ends : (length events ≡ budget) ⊎ IsAtRest v
