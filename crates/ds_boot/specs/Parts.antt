-- A running host's processes, mailboxes, inlets and connections before the first event.
use Rattle.std.specs.Prelude.{ℕ, ◌<◌, ◌≤◌, ◌==◌, All, length, if◌then◌else◌, List, [], ◌∷◌, ◌++◌, map, flat_map, None, IsTrue}
use Rattle.ds_label.specs.declared.category.PubKey.{PubKey}
use Rattle.ds_label.specs.declared.category.Category.{Category}
use Rattle.ds_script.specs.declared.actor.Actor.{Actor}
use Rattle.ds_script.specs.declared.actor.ActorKind.TheVariants as kinds
use Rattle.ds_script.specs.declared.usable.Usable.{Usable}
use Rattle.ds_script.specs.Fits.{IsScript}
use Rattle.ds_script.specs.Process.{fresh}
use Rattle.ds_model.specs.Mapping.{number_of}
use Rattle.ds_model.specs.Scheme.{InletName}
use Rattle.ds_map.specs.Labels.{are_known, numbered}
use Rattle.ds_box.specs.Boxes.{fresh_mailbox}
use Rattle.ds_inlet.specs.Inlets.{CountedLane, fresh_inlet}
use Rattle.ds_inlet.specs.Connections.{Connection, new_connection}
use Rattle.ds_exporter.specs.HostStates.{HostProcess, HostBox}
use Rattle.ds_plan.specs.declared.doc.Doc.{Doc}
use Rattle.ds_plan.specs.declared.host.HostSpec.{HostSpec}
use Rattle.ds_plan.specs.declared.host.LaneSpec.{LaneSpec}
use Rattle.ds_plan.specs.declared.process.ProcSpec.{ProcSpec}
use Rattle.ds_plan.specs.declared.process.BoxSpec.{BoxSpec}
use Rattle.ds_setup.specs.Lists.{each, joined}
use Rattle.ds_setup.specs.Plans.{inlets_of}
use Rattle.ds_plan.specs.Keys.{host_key}

-- PROCESSES AND MAILBOXES, over the numbers of the table of the host with that key

-- a row's category, with its number
abbrev pub usable_of : PubKey → List Category → Category → Usable
usable_of here rows c = record { category = c; local = number_of here rows c }

-- a process at its script's first operation, which may use the names of the host's rows
abbrev pub process_begun : PubKey → List Category → ProcSpec → HostProcess
process_begun here rows p = record {
  process = fresh p.script p.made (numbered here rows p.label) (numbered here rows p.own) (numbered here rows p.clear)
      (map (usable_of here rows) rows);
  hand = None;
}

abbrev pub box_begun : PubKey → List Category → BoxSpec → HostBox
box_begun here rows b = record { slot = b.slot; mailbox = fresh_mailbox (numbered here rows b.label) b.owner b.room }

-- each category of its labels is known, and its script is one
pub record IsProcKnown (here : PubKey) (rows : List Category) (p : ProcSpec) : Type 0 where
  pub script : IsScript p.script
  pub known : IsTrue (are_known here rows (p.label ∷ p.own ∷ p.clear ∷ []))

abbrev pub IsBoxKnown : PubKey → List Category → BoxSpec → Type 0
IsBoxKnown here rows b = IsTrue (are_known here rows (b.label ∷ []))

-- INLETS AND CONNECTIONS

abbrev pub inlet_begun : InletName → CountedLane
inlet_begun name = fresh_inlet name.exporter name.lane

-- the hosts to which connections lead, by the connections' numbers: those of all lanes, and then the links
abbrev pub lane_to : LaneSpec → ℕ
lane_to lane = lane.to

abbrev pub lane_ends : HostSpec → List ℕ
lane_ends h = map lane_to h.lanes

abbrev pub ends_of : Doc → List ℕ
ends_of d = flat_map lane_ends d.hosts ++ d.links

abbrev pub conn_actor : (host number : ℕ) → Actor
conn_actor host number = record { kind = kinds.Conn; host = host; index = number }

-- the connection with that number, where it leads to the host at the place
abbrev pub conn_begun : (place : ℕ) → PubKey → List InletName → (number to : ℕ) → List Connection
conn_begun place key names number to =
    if to == place then new_connection (conn_actor place number) key names ∷ [] else []

-- the connections to a host, in the order of their numbers
abbrev pub conns_to : Doc → (place : ℕ) → HostSpec → List Connection
conns_to d place h = joined (each (conn_begun place (host_key h) (inlets_of d.hosts place h)) (ends_of d))

-- what a document sees to of a host's inlets
pub record HasInlets (hosts : ℕ) (h : HostSpec) : Type 0 where
  pub lanes : length h.lanes ≤ 32
  pub declared : length h.inlets ≤ 64
  pub from : All (λ i. i.from < hosts) h.inlets
