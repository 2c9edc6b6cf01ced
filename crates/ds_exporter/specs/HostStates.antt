-- An exporter as it stands: its desk, processes, mailboxes, lanes, inlets and connections, each with its history. What is left
-- out is the room that lists have taken.
use Rattle.std.specs.Prelude.{ℕ, List, Option, map}
use Rattle.ds_label.specs.declared.category.PubKey.{PubKey}
use Rattle.ds_script.specs.Process.{Process}
use Rattle.ds_msg.specs.declared.message.Message.{Message}
use Rattle.ds_desk.specs.Desks.{DeskView, kept_of}
use Rattle.ds_box.specs.Boxes.{Mailbox}
use Rattle.ds_lane.specs.Lanes.{Lane}
use Rattle.ds_lane.specs.Workers.{Worker}
use Rattle.ds_inlet.specs.Inlets.{CountedLane, InletWithCapacity}
use Rattle.ds_inlet.specs.Connections.{Connection, ConnectionWithCapacity}
use Rattle.ds_exporter.specs.declared.parts.ProcPart.{ProcPart}
use Rattle.ds_exporter.specs.declared.parts.BoxPart.{BoxPart}
use Rattle.ds_exporter.specs.declared.parts.LanePart.{LanePart}
use Rattle.ds_exporter.specs.declared.parts.ExporterParts.{ExporterParts}

-- a process over the host's numbers, and the judged message to another host that it has in hand, if any
pub record HostProcess : Type 0 where
  pub process : Process
  pub hand : Option Message

-- a mailbox over the host's numbers, and its slot
pub record HostBox : Type 0 where
  pub slot : ℕ
  pub mailbox : Mailbox

-- a lane: what its senders share with its worker, and the worker's own part
pub record HostLane : Type 0 where
  pub lane : Lane
  pub worker : Worker

-- the host's place in the document, the keys of all hosts, and the parts, by their places
pub record HostState : Type 0 where
  pub host : ℕ
  pub keys : List PubKey
  pub desk : DeskView
  pub procs : List HostProcess
  pub boxes : List HostBox
  pub lanes : List HostLane
  pub inlets : List CountedLane
  pub conns : List Connection

-- the parts without the room of their lists
abbrev pub process_of : ProcPart → HostProcess
process_of x = record { process = x.process.process; hand = x.hand }

abbrev pub box_of : BoxPart → HostBox
box_of b = record { slot = b.slot; mailbox = b.state.mailbox }

abbrev pub lane_of : LanePart → HostLane
lane_of l = record { lane = l.state.lane; worker = l.end.worker }

abbrev pub inlet_of : InletWithCapacity → CountedLane
inlet_of i = i.inlet

abbrev pub connection_of : ConnectionWithCapacity → Connection
connection_of k = k.conn

-- the exporter of these parts
abbrev pub state_of : ExporterParts → HostState
state_of p = record {
  host = p.host;
  keys = p.keys.items;
  desk = kept_of p.desk;
  procs = map process_of p.procs.items;
  boxes = map box_of p.boxes.items;
  lanes = map lane_of p.lanes.items;
  inlets = map inlet_of p.inlets.items;
  conns = map connection_of p.conns.items;
}
