-- A host of a run: its exporter where it runs, and where it is silent the connections to it. Nobody acts for a silent host: bytes
-- arrive there, and nothing reads them.
use Rattle.std.specs.Prelude.{◌≡◌, ◌+◌, ℕ, true, List, [], map, get_or, slice_get, None, Some}
use Rattle.ds_msg.specs.declared.message.Message.{Message}
use Rattle.ds_model.specs.Plan.{HostPlan}
use Rattle.ds_model.specs.World.{Conn, Host, Process}
use Rattle.ds_model.specs.Step.{HostAndConn}
use Rattle.ds_scheme.specs.Spelled.{has_spelling}
use Rattle.ds_setup.specs.Starts.{empty_desk}
use Rattle.ds_inlet.specs.Connections.{Connection}
use Rattle.ds_inlet.specs.PlainConnections.{plain_conn}
use Rattle.ds_exporter.specs.HostStates.{HostState, connection_of}
use Rattle.ds_exporter.specs.PlainHosts.{arrived_of, conn_at, host_of, no_conn, site_of}
use Rattle.ds_exporter.specs.Stamping.{IsBefore}
use Rattle.ds_hosts.specs.declared.node.Node.{Node}
use Rattle.ds_hosts.specs.declared.node.Node.TheVariants as nodes

-- an exporter, or the connections to a silent host
pub data NodeState : Type 0 where
  Running : HostState → NodeState
  Silent : List Connection → NodeState

-- a node without the room of its lists
abbrev pub node_of : Node → NodeState
node_of (nodes.Running e) = Running e
node_of (nodes.Silent conns) = Silent (map connection_of conns.items)

-- IN THE PLAIN WORLD

-- a silent host has nothing
abbrev pub silent_host : Host
silent_host = record { desk = empty_desk; procs = []; boxes = []; queues = []; workers = []; logs = []; inlets = [] }

abbrev pub plain_host : NodeState → Host
plain_host (Running e) = host_of e
plain_host (Silent conns) = silent_host

-- the connections to it
abbrev pub conns_of : NodeState → List Connection
conns_of (Running e) = e.conns
conns_of (Silent conns) = conns

-- with other connections
abbrev pub with_conns : List Connection → NodeState → NodeState
with_conns conns (Running e) = Running (record e { conns = conns })
with_conns conns (Silent before) = Silent conns

-- the connection at a place, whose link's stream is this one; of a silent host's none has a message
abbrev pub conn_in : (link : List ℕ) → (place : ℕ) → NodeState → Conn
conn_in link place (Running e) = conn_at link place e
conn_in link place (Silent conns) = get_or (map (plain_conn link None) conns) place no_conn

-- what arrived there
abbrev pub arrived_in : (place : ℕ) → NodeState → List ℕ
arrived_in place x = get_or (map arrived_of (conns_of x)) place []

-- the host and that connection
abbrev pub ends_in : (link : List ℕ) → (place : ℕ) → NodeState → HostAndConn
ends_in link place x = record { host = plain_host x; conn = conn_in link place x }

-- each message that a process has in hand has a spelling
abbrev pub SpellsHands : Host → Type 0
SpellsHands x = (p : ℕ) (y : Process) (m : Message) → slice_get x.procs p ≡ Some y → y.hand ≡ Some m → has_spelling m ≡ true

-- WHAT IT KEEPS

-- what setup fixed of it is this
abbrev pub IsPlanOf : HostPlan → NodeState → Type 0
IsPlanOf plan (Running e) = site_of e ≡ plan
IsPlanOf plan (Silent conns) = plan.silent ≡ true

-- each stamp is below this one
abbrev pub IsEarlier : ℕ → NodeState → Type 0
IsEarlier n (Running e) = IsBefore n e
IsEarlier n (Silent conns) = Unit {0}

-- or at most this one
abbrev pub IsUntil : ℕ → NodeState → Type 0
IsUntil n x = IsEarlier (n + 1) x

-- a connection as the plain world has it, and what arrived there, are the same at each place
pub record SameConns (before after : NodeState) : Type 0 where
  pub conns : (link : List ℕ) (place : ℕ) → conn_in link place after ≡ conn_in link place before
  pub arrived : (place : ℕ) → arrived_in place after ≡ arrived_in place before
