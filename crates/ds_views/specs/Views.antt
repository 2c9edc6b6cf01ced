-- What actors see of a run: a process itself, and a host's clock the host's public state and what arrived there. A lane's worker and
-- a connection have no view.
use Rattle.std.specs.Prelude.{◌≡◌, ℕ, false, List, map, Option, Some, None, option_map, slice_get}
use Rattle.ds_label.specs.declared.category.Category.{Category}
use Rattle.ds_script.specs.declared.actor.Actor.{Actor}
use Rattle.ds_script.specs.declared.actor.ActorKind.{ActorKind}
use Rattle.ds_script.specs.declared.actor.ActorKind.TheVariants as kinds
use Rattle.ds_model.specs.Plan.{Plan}
use Rattle.ds_model.specs.World.{Process, Host, World}
use Rattle.ds_model.specs.Views.{HostView, host_view, proc_at, view_of_proc, view_of_host}
use Rattle.ds_noninterference.specs.High.{is_in, high_at}
use Rattle.ds_exporter.specs.PlainHosts.{arrived_of}
use Rattle.ds_hosts.specs.Nodes.{NodeState, conns_of, plain_host}
use Rattle.ds_views.specs.declared.actor_view.View.{View}
use Rattle.ds_views.specs.declared.actor_view.View.TheVariants as views

-- the view of an actor, where there is one
abbrev pub view_by : Plan → World → ActorKind → (host index : ℕ) → Option View
view_by plan w kinds.Clock h i = option_map views.Host (view_of_host plan w h)
view_by plan w kinds.Proc h i = option_map views.Proc (view_of_proc w h i)
view_by plan w kinds.Lane h i = None
view_by plan w kinds.Conn h i = None

abbrev pub view_of : Plan → World → Actor → Option View
view_of plan w a = view_by plan w a.kind a.host a.index

-- the world has the actor, a host's clock or a process
abbrev pub HasOne : World → ActorKind → (host index : ℕ) → Type 0
HasOne w kinds.Clock h i = (x : Host) × (slice_get w.hosts h ≡ Some x)
HasOne w kinds.Proc h i = (x : Process) × (proc_at w h i ≡ Some x)
HasOne w kinds.Lane h i = ⊥
HasOne w kinds.Conn h i = ⊥

abbrev pub HasActor : World → Actor → Type 0
HasActor w a = HasOne w a.kind a.host a.index

-- it is outside a category: the clock of a host that isn't trusted, or a process that isn't high
abbrev pub IsApart : Category → (trusted : List ℕ) → World → ActorKind → (host index : ℕ) → Type 0
IsApart c trusted w kinds.Clock h i = is_in trusted h ≡ false
IsApart c trusted w kinds.Proc h i = high_at c (is_in trusted h) (proc_at w h i) ≡ false
IsApart c trusted w kinds.Lane h i = ⊥
IsApart c trusted w kinds.Conn h i = ⊥

abbrev pub IsOutside : Category → (trusted : List ℕ) → World → Actor → Type 0
IsOutside c trusted w a = IsApart c trusted w a.kind a.host a.index

-- what a host of a run sees: what arrived at the connections to it, in the order of their numbers
abbrev pub node_view : NodeState → HostView
node_view x = host_view (plain_host x).desk (map arrived_of (conns_of x))
