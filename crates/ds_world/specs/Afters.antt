-- What an event leaves of a world.
use Rattle.std.specs.Prelude.{◌≡◌, ◌≢◌, ℕ, ◌+◌, ◌<◌, ◌++◌, List, Some, length, slice_get}
use Rattle.ds_model.specs.Lists.{at}
use Rattle.ds_model.specs.Plan.{HostPlan, Plan}
use Rattle.ds_model.specs.World.{Conn, Host, World}
use Rattle.ds_model.specs.ConnectionStep.{ConnAsk, arrive}
use Rattle.ds_model.specs.Step.{Event, perform_conn, run, step}
use Rattle.ds_setup.specs.Plans.{plan_of}
use Rattle.ds_scheme.specs.TheScheme.{scheme}
use Rattle.ds_exporter.specs.declared.moved.Moved.{Moved}
use Rattle.ds_exporter.specs.declared.moved.Moved.TheVariants.{Changed, Still}
use Rattle.ds_exporter.specs.Moving.{Moves}
use Rattle.ds_hosts.specs.Nodes.{NodeState, IsPlanOf, IsUntil, SameConns, arrived_in, conn_in, conns_of, ends_in, plain_host}
use Rattle.ds_world.specs.Worlds.{WorldState, IsWorld, world_of}

-- the world is the one that the event makes of it, and counts one event more
pub record IsAfter (moved : Moved) (event : Event) (before after : WorldState) : Type 0 where
  pub moves : Moves moved (world_of before) (world_of after) (step scheme (plan_of before.doc) (world_of before) event)
  pub world : IsWorld after
  pub doc : after.doc ≡ before.doc
  pub count : after.count ≡ before.count + 1

-- the same, but the world counts the event only where it changed something
pub record IsAfterUnlessStill (moved : Moved) (event : Event) (before after : WorldState) : Type 0 where
  pub moves : Moves moved (world_of before) (world_of after) (step scheme (plan_of before.doc) (world_of before) event)
  pub world : IsWorld after
  pub doc : after.doc ≡ before.doc
  pub still : moved ≡ Still → after ≡ before
  pub changed : moved ≡ Changed → after.count ≡ before.count + 1

-- memory ran out in the midst of these events: the first of them happened, the others didn't
pub record IsStoppedIn (plan : Plan) (events : List Event) (before after : World) : Type 0 where
  pub done : List Event
  pub left : List Event
  pub split : events ≡ done ++ left
  pub world : after ≡ run scheme plan before done

-- with a count of one more
abbrev pub counted : (count : ℕ) → WorldState → WorldState
counted count w = record w { count = count + 1 }

-- an event of a host alone, that by its plan makes this of it
pub record IsStepped (becomes : HostPlan → Host → Host) (moved : Moved) (stamp : ℕ) (before after : NodeState) : Type 0 where
  pub moves : (plan : HostPlan) → IsPlanOf plan before → Moves moved (plain_host before) (plain_host after) (becomes plan (plain_host before))
  pub same : SameConns before after
  pub plan : (plan : HostPlan) → IsPlanOf plan before → IsPlanOf plan after
  pub count : length (conns_of after) ≡ length (conns_of before)
  pub still : moved ≡ Still → after ≡ before
  pub stamps : IsUntil stamp after

-- the same of the host at a place
abbrev pub IsSteppedAt : (HostPlan → Host → Host) → Moved → (stamp host : ℕ) → (before after : List NodeState) → Type 0
IsSteppedAt becomes moved stamp host before after =
    (x : NodeState) → slice_get before host ≡ Some x → (y : NodeState) × (after ≡ at host (λ _. y) before) × IsStepped becomes moved stamp x y

-- a connection of the host asks this, and both become what the plain world makes of them
pub record IsAnswered (asks : HostPlan → Conn → List ℕ → ConnAsk) (moved : Moved) (stamp place : ℕ) (before after : NodeState) : Type 0 where
  pub moves : (link : List ℕ) (plan : HostPlan) → IsPlanOf plan before → Moves moved (ends_in link place before) (ends_in link place after)
      (perform_conn scheme plan (plain_host before) (conn_in link place before) (asks plan (conn_in link place before) (arrived_in place before)))
  pub others : (link : List ℕ) (other : ℕ) → other ≢ place → conn_in link other after ≡ conn_in link other before
  pub arrived : (other : ℕ) → arrived_in other after ≡ arrived_in other before
  pub plan : (plan : HostPlan) → IsPlanOf plan before → IsPlanOf plan after
  pub count : length (conns_of after) ≡ length (conns_of before)
  pub still : moved ≡ Still → after ≡ before
  pub stamps : IsUntil stamp after

abbrev pub IsAnsweredAt : (HostPlan → Conn → List ℕ → ConnAsk) → Moved → (stamp host place : ℕ) → (before after : List NodeState) → Type 0
IsAnsweredAt asks moved stamp host place before after =
    (x : NodeState) → slice_get before host ≡ Some x → (y : NodeState) × (after ≡ at host (λ _. y) before) × IsAnswered asks moved stamp place x y

-- these bytes come to a connection of the host, as the next ones of its stream
pub record IsFed (piece : List ℕ) (moved : Moved) (stamp place : ℕ) (before after : NodeState) : Type 0 where
  pub moves : (link stream later : List ℕ) → stream ≡ (arrived_in place before ++ piece) ++ later → place < length (conns_of before)
      → Moves moved (conn_in link place before) (conn_in link place after) (arrive stream (length piece) (conn_in link place before))
  pub bytes : place < length (conns_of before) → arrived_in place after ≡ arrived_in place before ++ piece
  pub host : plain_host after ≡ plain_host before
  pub others : (link : List ℕ) (other : ℕ) → other ≢ place → conn_in link other after ≡ conn_in link other before
  pub arrived : (other : ℕ) → other ≢ place → arrived_in other after ≡ arrived_in other before
  pub plan : (plan : HostPlan) → IsPlanOf plan before → IsPlanOf plan after
  pub count : length (conns_of after) ≡ length (conns_of before)
  pub still : moved ≡ Still → after ≡ before
  pub stamps : IsUntil stamp after

abbrev pub IsFedAt : (piece : List ℕ) → Moved → (stamp host place : ℕ) → (before after : List NodeState) → Type 0
IsFedAt piece moved stamp host place before after =
    (x : NodeState) → slice_get before host ≡ Some x → (y : NodeState) × (after ≡ at host (λ _. y) before) × IsFed piece moved stamp place x y
