-- What a host does by itself, in whatever world it stands.
use Rattle.std.specs.Prelude.{◌≡◌, ℕ, ◌+◌, ◌<◌, ◌≤◌, ◌^◌, List, ◌++◌, Some, length, map, slice_get}
use Rattle.ds_model.specs.Lists.{at}
use Rattle.ds_model.specs.Step.{run}
use Rattle.ds_plan.specs.declared.doc.Doc.{Doc}
use Rattle.ds_plan.specs.declared.event.Event.{Event}
use Rattle.ds_setup.specs.Events.{meant}
use Rattle.ds_setup.specs.Plans.{plan_of}
use Rattle.ds_scheme.specs.TheScheme.{scheme}
use Rattle.ds_hosts.specs.Nodes.{NodeState, IsUntil, node_of}
use Rattle.ds_world.specs.Worlds.{WorldState, IsWorld, world_of}
use Rattle.ds_world.specs.Hands.{AreSpelledAfter, HandsAreSpelled}
use Rattle.ds_mesh.specs.declared.task.Task.{Task}

-- IN A WORLD

-- These events happened, one after another, and each is counted. Where messages in hand had spellings they have them all through.
pub record Happened (w v : WorldState) (events : List Event) : Type 0 where
  pub world : IsWorld v
  pub doc : v.doc ≡ w.doc
  pub count : v.count ≡ w.count + length events
  pub ran : world_of v ≡ run scheme (plan_of w.doc) (world_of w) (map meant events)
  pub spelled : HandsAreSpelled (world_of w) → AreSpelledAfter (plan_of w.doc) (world_of w) (map meant events)

-- with another host at a place, and so many events more
abbrev pub with_host : (host : ℕ) → NodeState → (more : ℕ) → WorldState → WorldState
with_host host y more w = record w { nodes = at host (λ _. y) w.nodes; count = w.count + more }

-- OF ONE HOST

-- The host at a place, whose stamps were at most this one, did these events by itself: in each world of the document in which it
-- stands there, whatever the other hosts are, they happen and make this of it.
pub record Did (d : Doc) (host since : ℕ) (events : List Event) (x y : NodeState) : Type 0 where
  pub stamps : IsUntil (since + length events) y
  pub happens : (w : WorldState) → IsWorld w → w.doc ≡ d → slice_get w.nodes host ≡ Some x → since ≤ w.count
      → Happened w (with_host host y (length events) w) events

-- OF ONE WORKER

-- its host's stamps are at most its own, and there are numbers for all that it may still do
pub record IsReady (t : Task) : Type 0 where
  pub stamps : IsUntil t.stamp (node_of t.node)
  pub room : t.stamp + t.left < 2 ^ 64

-- it did these events more, each counted in its stamp and taken off what it may still do, and kept them
pub record Works (d : Doc) (a b : Task) : Type 0 where
  pub more : List Event
  pub host : b.host ≡ a.host
  pub events : b.events.items ≡ a.events.items ++ more
  pub stamp : b.stamp ≡ a.stamp + length more
  pub left : b.left + length more ≡ a.left
  pub did : Did d a.host a.stamp more (node_of a.node) (node_of b.node)
  pub ready : IsReady b
