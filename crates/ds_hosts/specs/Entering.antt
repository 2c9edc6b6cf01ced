-- Which entry an event makes at a host of a run: the one that the plain world touches there. A silent host has no history.
use Rattle.std.specs.Prelude.{◌≡◌, ℕ, List, Some, slice_get}
use Rattle.ds_inlet.specs.Connections.{Connection}
use Rattle.ds_exporter.specs.HostStates.{HostState}
use Rattle.ds_exporter.specs.Conditions.{clock_actor, lane_actor}
use Rattle.ds_exporter.specs.Stepping.{proc_actor}
use Rattle.ds_exporter.specs.Entering.{Enters, accept_access, deliver_access, frame_access, step_access, tick_access}
use Rattle.ds_hosts.specs.Nodes.{NodeState, Running, Silent}

-- what is so of the exporter before and after; a silent host stays silent
abbrev pub IfRunning : (HostState → HostState → Type 0) → (old new : NodeState) → Type 0
IfRunning P (Running e) (Running f) = P e f
IfRunning P (Silent conns) (Silent later) = Unit {0}
IfRunning P (Running e) (Silent later) = ⊥
IfRunning P (Silent conns) (Running f) = ⊥

-- a step of the process at a place
abbrev pub StepEnters : (stamp place : ℕ) → (old new : HostState) → Type 0
StepEnters stamp p e f = Enters stamp (proc_actor e.host p) (step_access p e) e f

-- a frame event of the lane at a place
abbrev pub FrameEnters : (stamp place : ℕ) → (old new : HostState) → Type 0
FrameEnters stamp p e f = Enters stamp (lane_actor e.host p) (frame_access p e) e f

-- the connection at a place that accepts, whose link's stream is this one
abbrev pub AcceptEnters : (link : List ℕ) → (stamp place : ℕ) → (old new : HostState) → Type 0
AcceptEnters link stamp place e f = (k : Connection) → slice_get e.conns place ≡ Some k
    → Enters stamp k.who (accept_access link place e) e f

-- and the one that delivers
abbrev pub DeliverEnters : (link : List ℕ) → (stamp place : ℕ) → (old new : HostState) → Type 0
DeliverEnters link stamp place e f = (k : Connection) → slice_get e.conns place ≡ Some k
    → Enters stamp k.who (deliver_access link place e) e f

-- a tick of the clock
abbrev pub TickEnters : (stamp to : ℕ) → (old new : HostState) → Type 0
TickEnters stamp to e f = Enters stamp (clock_actor e.host) (tick_access to e) e f
