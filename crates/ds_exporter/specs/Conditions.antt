-- Which parts fit together as one host.
use Rattle.std.specs.Prelude.{◌≡◌, ◌≢◌, ℕ, ◌+◌, ◌<◌, ◌≤◌, ◌^◌, List, [], ◌∷◌, length, map, slice_get, slice_index_or, All, AllPairs, Option, Some, None, IsTrue, true}
use Rattle.std.specs.List.{Any}
use Rattle.ds_label.specs.declared.category.PubKey.{PubKey}
use Rattle.ds_label.specs.declared.category.Category.{Category}
use Rattle.ds_script.specs.declared.actor.Actor.{Actor}
use Rattle.ds_script.specs.declared.actor.ActorKind.TheVariants as kinds
use Rattle.ds_script.specs.declared.op.Op.{Op}
use Rattle.ds_script.specs.declared.op.Op.TheVariants as ops
use Rattle.ds_script.specs.declared.usable.Usable.{Usable}
use Rattle.ds_msg.specs.declared.message.Message.{Message}
use Rattle.ds_msg.specs.declared.local.LocalMessage.{LocalMessage}
use Rattle.ds_model.specs.Mapping.{to_number}
use Rattle.ds_model.specs.Scheme.{InletName}
use Rattle.ds_map.specs.Labels.{have_names}
use Rattle.ds_desk.specs.Desks.{IsReplay}
use Rattle.ds_box.specs.declared.entry.BoxAct.{BoxAct}
use Rattle.ds_box.specs.declared.entry.BoxAct.TheVariants.{Put, Full, Took}
use Rattle.ds_box.specs.declared.entry.BoxEntry.{BoxEntry}
use Rattle.ds_lane.specs.Lanes.{IsOn}
use Rattle.ds_inlet.specs.Inlets.{CountedLane}
use Rattle.ds_inlet.specs.Connections.{Connection}
use Rattle.ds_scheme.specs.Spelled.{has_spelling}
use Rattle.ds_exporter.specs.HostStates.{HostProcess, HostBox, HostLane, HostState}
use Rattle.ds_exporter.specs.PlainHosts.{name_of_inlet}

-- WHAT DIFFERS

-- two mailboxes have two slots
abbrev pub HaveTwoSlots : HostBox → HostBox → Type 0
HaveTwoSlots a b = a.slot ≢ b.slot

-- two lanes have two receivers, or two labels
abbrev pub AreTwoLanes : HostLane → HostLane → Type 0
AreTwoLanes a b = a.lane.cert.receiver ≡ b.lane.cert.receiver → a.lane.cert.label ≢ b.lane.cert.label

-- two inlets are of two exporters, or of two lanes
abbrev pub AreTwoInlets : CountedLane → CountedLane → Type 0
AreTwoInlets a b = a.exporter ≡ b.exporter → a.lane ≢ b.lane

-- WHAT IS IN RANGE

-- a mailbox's process is one of so many
abbrev pub IsOwned : ℕ → HostBox → Type 0
IsOwned procs b = b.mailbox.owner < procs

-- the hosts of an operation are among so many
abbrev pub OpReaches : ℕ → Op → Type 0
OpReaches hosts (ops.Send host slot reg label own clear) = host < hosts
OpReaches hosts (ops.Delegate reg category to from until) = to < hosts
OpReaches hosts _ = Unit {0}

abbrev pub Reaches : ℕ → HostProcess → Type 0
Reaches hosts x = All (OpReaches hosts) x.process.script

-- ACTORS

abbrev pub clock_actor : (host : ℕ) → Actor
clock_actor host = record { kind = kinds.Clock; host = host; index = 0 }

abbrev pub lane_actor : (host place : ℕ) → Actor
lane_actor host place = record { kind = kinds.Lane; host = host; index = place + 1 }

-- the worker at a place is that lane's
abbrev pub AreLaneActors : ℕ → List HostLane → Type 0
AreLaneActors host lanes = (place : ℕ) (d : HostLane) → place < length lanes → (slice_index_or lanes place d).worker.who ≡ lane_actor host place

-- a connection's worker is of this host
pub record IsConnOf (host : ℕ) (k : Connection) : Type 0 where
  pub kind : k.who.kind ≡ kinds.Conn
  pub at : k.who.host ≡ host

-- a later connection has a greater index
abbrev pub ComesBefore : Connection → Connection → Type 0
ComesBefore a b = a.who.index < b.who.index

-- ONE HOST

-- a lane's two values have one certificate, of this host
pub record IsLaneOf (here : PubKey) (l : HostLane) : Type 0 where
  pub one : l.worker.cert ≡ l.lane.cert
  pub exporter : l.lane.cert.exporter ≡ here

-- a connection leads to this host and its inlets
pub record LeadsTo (key : PubKey) (names : List InletName) (k : Connection) : Type 0 where
  pub here : k.here ≡ key
  pub inlets : k.inlets ≡ names

-- NAMES: each local number has one

-- the labels of a message in a mailbox
abbrev pub mail_labels : LocalMessage → List (List ℕ)
mail_labels m = m.label ∷ m.own ∷ m.clear ∷ []

abbrev pub IsMailNamed : PubKey → List Category → LocalMessage → Type 0
IsMailNamed here rows m = IsTrue (have_names here rows (mail_labels m))

abbrev pub IsActNamed : PubKey → List Category → BoxAct → Type 0
IsActNamed here rows (Put m) = IsMailNamed here rows m
IsActNamed here rows (Full m) = IsMailNamed here rows m
IsActNamed here rows Took = Unit {0}

abbrev pub IsEntryNamed : PubKey → List Category → BoxEntry → Type 0
IsEntryNamed here rows entry = IsActNamed here rows entry.act

-- of a mailbox: its label, what waits, what waited at its opening, and its entries
pub record IsBoxNamed (here : PubKey) (rows : List Category) (b : HostBox) : Type 0 where
  pub label : IsTrue (have_names here rows (b.mailbox.label ∷ []))
  pub waiting : All (IsMailNamed here rows) b.mailbox.waiting
  pub opening : All (IsMailNamed here rows) b.mailbox.opening
  pub history : All (IsEntryNamed here rows) b.mailbox.history

-- of a process
abbrev pub proc_labels : HostProcess → List (List ℕ)
proc_labels x = x.process.label ∷ x.process.own ∷ x.process.clear ∷ []

abbrev pub IsProcNamed : PubKey → List Category → HostProcess → Type 0
IsProcNamed here rows x = IsTrue (have_names here rows (proc_labels x))

-- of a message that passed
abbrev pub IsPassedNamed : PubKey → List Category → Option (ℕ × LocalMessage) → Type 0
IsPassedNamed here rows None = Unit {0}
IsPassedNamed here rows (Some x) = IsMailNamed here rows x.1

abbrev pub IsConnNamed : PubKey → List Category → Connection → Type 0
IsConnNamed here rows k = IsPassedNamed here rows k.passed

-- a usable name has the table's number
abbrev pub IsNumbered : PubKey → List Category → Usable → Type 0
IsNumbered here rows u = to_number here rows u.category ≡ Some u.local

abbrev pub AreNumbered : PubKey → List Category → HostProcess → Type 0
AreNumbered here rows x = All (IsNumbered here rows) x.process.names

-- MESSAGES ON THEIR WAY

-- a message in a process's hand is of one of the lanes, and has a spelling
abbrev pub HasLane : List HostLane → Option Message → Type 0
HasLane lanes None = Unit {0}
HasLane lanes (Some m) = Any (λ l. IsOn l.lane.cert m) lanes × (has_spelling m ≡ true)

abbrev pub HandHasLane : List HostLane → HostProcess → Type 0
HandHasLane lanes x = HasLane lanes x.hand

-- with a message in hand the process hasn't ended: it is at the send
abbrev pub HasMore : Option Message → (place size : ℕ) → Type 0
HasMore None place size = Unit {0}
HasMore (Some m) place size = place < size

abbrev pub IsGoing : HostProcess → Type 0
IsGoing x = HasMore x.hand x.process.course.place (length x.process.script)

-- a message that passed is for one of the mailboxes
abbrev pub HasBox : List HostBox → Option (ℕ × LocalMessage) → Type 0
HasBox boxes None = Unit {0}
HasBox boxes (Some x) = Any (λ b. b.slot ≡ x.0) boxes

abbrev pub PassedHasBox : List HostBox → Connection → Type 0
PassedHasBox boxes k = HasBox boxes k.passed

-- before its hello a connection has no message
abbrev pub HasHelloFirst : Connection → Type 0
HasHelloFirst k = k.reader.lane ≡ None → (k.hand ≡ []) × (k.passed ≡ None)

-- THE CONDITIONS

pub record IsFit (e : HostState) : Type 0 where
  -- the desk is the replay of its history, and its key is the one of the host's place
  pub desk : IsReplay e.desk
  pub place : slice_get e.keys e.host ≡ Some e.desk.here
  -- at most 2^30 processes
  pub few : length e.procs ≤ 2 ^ 30
  -- mailboxes, lanes and inlets are told apart
  pub slots : AllPairs HaveTwoSlots e.boxes
  pub lanes : AllPairs AreTwoLanes e.lanes
  pub inlets : AllPairs AreTwoInlets e.inlets
  -- owners and the hosts of scripts are in range
  pub owners : All (IsOwned (length e.procs)) e.boxes
  pub scripts : All (Reaches (length e.keys)) e.procs
  -- actors are of this host, lanes by their numbers, connections in their order
  pub lane_actors : AreLaneActors e.host e.lanes
  pub conn_actors : All (IsConnOf e.host) e.conns
  pub order : AllPairs ComesBefore e.conns
  -- lanes and connections are of this host
  pub certs : All (IsLaneOf e.desk.here) e.lanes
  pub conns : All (LeadsTo e.desk.here (map name_of_inlet e.inlets)) e.conns
  -- each local number has a name in the desk's table, and usable names have the table's numbers
  pub named_procs : All (IsProcNamed e.desk.here e.desk.desk.rows) e.procs
  pub named_boxes : All (IsBoxNamed e.desk.here e.desk.desk.rows) e.boxes
  pub named_conns : All (IsConnNamed e.desk.here e.desk.desk.rows) e.conns
  pub usable : All (AreNumbered e.desk.here e.desk.desk.rows) e.procs
  -- messages in hand have their lanes and spellings and aren't at a script's end, passed ones have their mailboxes
  pub hands : All (HandHasLane e.lanes) e.procs
  pub going : All IsGoing e.procs
  pub passed : All (PassedHasBox e.boxes) e.conns
  -- connections have messages behind their hellos
  pub hellos : All HasHelloFirst e.conns
