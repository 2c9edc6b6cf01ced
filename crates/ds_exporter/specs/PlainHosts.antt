-- What an exporter is in the plain world: a host, its connections, and what of the plan is the host's. The names of the desk's
-- table stand in place of the host's own numbers.
use Rattle.std.specs.Prelude.{ℕ, false, List, [], map, length, get_or, Option, Some, None}
use Rattle.ds_label.specs.declared.category.PubKey.{PubKey}
use Rattle.ds_label.specs.declared.category.Category.{Category}
use Rattle.ds_script.specs.declared.usable.Usable.{Usable}
use Rattle.ds_msg.specs.declared.local.LocalMessage.{LocalMessage}
use Rattle.ds_model.specs.Scheme.{InletName}
use Rattle.ds_model.specs.Plan.{BoxPlan, LanePlan, HostPlan}
use Rattle.ds_model.specs.Mailbox.{BoxEntry, PutIn, FoundFull, TookOut}
use Rattle.ds_model.specs.Inlet.{Inlet}
use Rattle.ds_model.specs.World.{Process, Mail, Mailbox, Queue, Worker, LaneLine, Passed, Conn, Host}
use Rattle.ds_model.specs.Step.{HostAndConn}
use Rattle.ds_map.specs.Labels.{named}
use Rattle.ds_desk.specs.Signing.{signing_of}
use Rattle.ds_box.specs.declared.entry.BoxAct.{BoxAct}
use Rattle.ds_box.specs.declared.entry.BoxAct.TheVariants.{Put, Full, Took}
use Rattle.ds_box.specs.declared.entry.BoxEntry.{BoxEntry as Entry}
use Rattle.ds_inlet.specs.Inlets.{CountedLane}
use Rattle.ds_inlet.specs.Connections.{Connection}
use Rattle.ds_inlet.specs.PlainConnections.{plain_conn}
use Rattle.ds_exporter.specs.HostStates.{HostProcess, HostBox, HostLane, HostState}
use Rattle.ds_exporter.specs.Merging.{plain_waiting, lines_of}

-- PARTS, under a table of the host with that key

-- a process: labels by names, and the names that it may use without their numbers
abbrev pub category_of : Usable → Category
category_of u = u.category

abbrev pub plain_process : PubKey → List Category → HostProcess → Process
plain_process here rows x = record {
  script = x.process.script;
  course = x.process.course;
  label = named here rows x.process.label;
  own = named here rows x.process.own;
  clear = named here rows x.process.clear;
  names = map category_of x.process.names;
  made = x.process.made;
  hand = x.hand;
}

-- a message in a mailbox
abbrev pub plain_mail : PubKey → List Category → LocalMessage → Mail Category
plain_mail here rows m = record { from = m.from; label = named here rows m.label; own = named here rows m.own; clear = named here rows m.clear; payload = m.payload }

-- an entry of a mailbox
abbrev pub plain_act : PubKey → List Category → BoxAct → BoxEntry (Mail Category)
plain_act here rows (Put m) = PutIn (plain_mail here rows m)
plain_act here rows (Full m) = FoundFull (plain_mail here rows m)
plain_act here rows Took = TookOut

abbrev pub plain_entry : PubKey → List Category → Entry → BoxEntry (Mail Category)
plain_entry here rows entry = plain_act here rows entry.act

-- a mailbox, with its entries since its opening
abbrev pub plain_box : PubKey → List Category → HostBox → Mailbox
plain_box here rows b = record { waiting = map (plain_mail here rows) b.mailbox.waiting; entries = map (plain_entry here rows) b.mailbox.history }

-- what waits on a lane, its worker, and what is printed of both
abbrev pub plain_queue : HostLane → Queue
plain_queue l = map plain_waiting l.lane.waiting

abbrev pub plain_worker : HostLane → Worker
plain_worker l = record { hand = map plain_waiting l.worker.hand; leaf = l.worker.signing.next; stream = l.worker.stream }

abbrev pub log_of : HostLane → List LaneLine
log_of l = lines_of l.lane.history l.worker.entries

-- the last number of an inlet, and its name
abbrev pub plain_inlet : CountedLane → Inlet
plain_inlet i = i.number

abbrev pub name_of_inlet : CountedLane → InletName
name_of_inlet i = record { exporter = i.exporter; lane = i.lane }

-- a message that was judged and isn't put yet
abbrev pub plain_passed : PubKey → List Category → Option (ℕ × LocalMessage) → Option Passed
plain_passed here rows None = None
plain_passed here rows (Some x) = Some (record { slot = x.0; mail = plain_mail here rows x.1 })

-- a connection whose link's stream is this one, of which a part has arrived
abbrev pub conn_of : PubKey → List Category → (link : List ℕ) → Connection → Conn
conn_of here rows link k = plain_conn link (plain_passed here rows k.passed) k

-- THE HOST

abbrev pub host_of : HostState → Host
host_of e = record {
  desk = e.desk.desk;
  procs = map (plain_process e.desk.here e.desk.desk.rows) e.procs;
  boxes = map (plain_box e.desk.here e.desk.desk.rows) e.boxes;
  queues = map plain_queue e.lanes;
  workers = map plain_worker e.lanes;
  logs = map log_of e.lanes;
  inlets = map plain_inlet e.inlets;
}

-- ONE OF ITS CONNECTIONS

-- no connection
abbrev pub no_conn : Conn
no_conn = record { link = []; count = 0; taken = 0; hand = []; passed = None; failed = None; lines = [] }

-- the connection at a place, whose link's stream is this one
abbrev pub conn_at : (link : List ℕ) → (place : ℕ) → HostState → Conn
conn_at link place x = get_or (map (conn_of x.desk.here x.desk.desk.rows link) x.conns) place no_conn

-- what arrived there
abbrev pub arrived_of : Connection → List ℕ
arrived_of k = k.arrived

abbrev pub arrived_at : (place : ℕ) → HostState → List ℕ
arrived_at place x = get_or (map arrived_of x.conns) place []

-- the host and that connection
abbrev pub ends_of : (link : List ℕ) → (place : ℕ) → HostState → HostAndConn
ends_of link place x = record { host = host_of x; conn = conn_at link place x }

-- WHAT SETUP FIXED

-- a mailbox of the plan
abbrev pub plan_of_box : PubKey → List Category → HostBox → BoxPlan
plan_of_box here rows b = record { slot = b.slot; owner = b.mailbox.owner; label = named here rows b.mailbox.label; room = b.mailbox.room }

-- a lane of the plan
abbrev pub plan_of_lane : HostLane → LanePlan
plan_of_lane l = record { cert = l.lane.cert; signing = signing_of l.worker.signing.key; room = l.lane.room }

abbrev pub site_of : HostState → HostPlan
site_of e = record {
  key = e.desk.here;
  silent = false;
  signing = signing_of e.desk.key;
  keys = e.keys;
  procs = length e.procs;
  boxes = map (plan_of_box e.desk.here e.desk.desk.rows) e.boxes;
  lanes = map plan_of_lane e.lanes;
  inlets = map name_of_inlet e.inlets;
}
