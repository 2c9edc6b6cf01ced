-- The document that a draft is, without its places.
use Rattle.std.specs.Prelude.{ℕ, ◌+◌, ◌*◌, ◌^◌, List, [], ◌∷◌, map, replicate, slice_get, nat_le, length, if◌then◌else◌, Option, Some, None, option_map}
use Rattle.ds_label.specs.declared.category.PubKey.{PubKey}
use Rattle.ds_label.specs.declared.category.Category.{Category}
use Rattle.ds_label.specs.Flow.{with_member}
use Rattle.ds_label.specs.Names.{by_name}
use Rattle.ds_script.specs.declared.op.Op.{Op}
use Rattle.ds_script.specs.declared.op.Op.TheVariants as made
use Rattle.ds_plan.specs.declared.doc.Doc.{Doc}
use Rattle.ds_plan.specs.declared.host.HostSpec.{HostSpec}
use Rattle.ds_plan.specs.declared.host.LaneSpec.{LaneSpec}
use Rattle.ds_plan.specs.declared.host.InletSpec.{InletSpec}
use Rattle.ds_plan.specs.declared.process.ProcSpec.{ProcSpec}
use Rattle.ds_plan.specs.declared.process.BoxSpec.{BoxSpec}
use Rattle.ds_plan.specs.declared.cert.CertSpec.{CertSpec}
use Rattle.ds_plan.specs.declared.cert.CertSpec.TheVariants as certificates
use Rattle.ds_plan.specs.declared.event.Event.{Event}
use Rattle.ds_plan.specs.declared.event.Event.TheVariants as happenings
use Rattle.ds_plan.specs.Keys.{key_of}
use Rattle.ds_doc.specs.declared.draft.Placed.{Placed}
use Rattle.ds_doc.specs.declared.draft.CategoryName.{CategoryName}
use Rattle.ds_doc.specs.declared.draft.DraftOp.{DraftOp}
use Rattle.ds_doc.specs.declared.draft.DraftOp.TheVariants as ops
use Rattle.ds_doc.specs.declared.draft.DraftProc.{DraftProc}
use Rattle.ds_doc.specs.declared.draft.DraftBox.{DraftBox}
use Rattle.ds_doc.specs.declared.draft.DraftLane.{DraftLane}
use Rattle.ds_doc.specs.declared.draft.DraftInlet.{DraftInlet}
use Rattle.ds_doc.specs.declared.draft.DraftHost.{DraftHost}
use Rattle.ds_doc.specs.declared.draft.DraftCert.{DraftCert}
use Rattle.ds_doc.specs.declared.draft.DraftCert.TheVariants as certs
use Rattle.ds_doc.specs.declared.draft.DraftEvent.{DraftEvent}
use Rattle.ds_doc.specs.declared.draft.DraftEvent.TheVariants as events
use Rattle.ds_doc.specs.declared.draft.Draft.{Draft}
use Rattle.ds_doc.specs.Names.{number_of, or_empty}
use Rattle.ds_doc.specs.Rules.{numbers}

-- ---- categories

abbrev pub key_or : Option PubKey → PubKey
key_or None = record { 0 = replicate 56 0 }
key_or (Some key) = key

-- the creator is the host's key; a category of process P with number N there has the number P * 2^32 + N
unfoldable pub category : List PubKey → CategoryName → Category
category keys c =
    let creator = key_or (slice_get keys (number_of c.host)) in
    record { creator = creator; kind = c.kind; number = c.process * 2 ^ 32 + c.number }

abbrev pub category_of : List PubKey → Placed CategoryName → Category
category_of keys c = category keys c.value

-- a label with one member more, unless it would have more than 64
abbrev pub joined : List Category → Category → List Category
joined label c = if nat_le (length (with_member by_name c label)) 64 then with_member by_name c label else label

abbrev pub joined_each : List PubKey → List Category → List (Placed CategoryName) → List Category
joined_each keys label [] = label
joined_each keys label (c ∷ cs) = joined_each keys (joined label (category_of keys c)) cs

unfoldable pub label : List PubKey → List (Placed CategoryName) → List Category
label keys cs = joined_each keys [] cs

-- ---- hosts

unfoldable pub op : List PubKey → DraftOp → Op
op keys (ops.Set reg text) = made.Set reg text
op keys (ops.Join reg left right) = made.Join reg left right
op keys (ops.IfEq left right to) = made.IfEq left right to.value
op keys (ops.Jump to) = made.Jump to.value
op keys (ops.Print reg) = made.Print reg
op keys (ops.Send host slot reg names own clear) =
    made.Send (number_of host.value) slot reg (label keys names) (label keys own) (label keys clear)
op keys (ops.Take reg slot) = made.Take reg slot
op keys (ops.SetLabel names) = made.SetLabel (label keys names)
op keys (ops.NewCat kind) = made.NewCat kind
op keys (ops.Delegate reg c to from until) = made.Delegate reg (category_of keys c) (number_of to.value) from until
op keys (ops.Map c) = made.Map (category_of keys c)
op keys (ops.Import reg) = made.Import reg

unfoldable pub process : List PubKey → DraftProc → ProcSpec
process keys p = record {
  made = p.made;
  label = label keys p.label;
  own = label keys p.own;
  clear = label keys p.clear;
  script = map (op keys) p.script;
}

unfoldable pub mailbox : List PubKey → DraftBox → BoxSpec
mailbox keys b = record { slot = b.slot.value; owner = b.owner.value; label = label keys b.label; room = b.room }

unfoldable pub lane : List PubKey → DraftLane → LaneSpec
lane keys l = record { to = number_of l.to.value; label = label keys l.label; room = l.room; until = l.until }

abbrev pub inlet : DraftInlet → InletSpec
inlet i = record { from = number_of i.from.value; lane = i.lane }

abbrev pub address : Option (Placed (List ℕ)) → Option (List ℕ)
address a = option_map (λ p. p.value) a

unfoldable pub host : List PubKey → DraftHost → HostSpec
host keys h = record {
  name = h.name.value;
  secret = h.secret.value;
  identity = h.identity;
  lanekey = h.lanekey;
  address = address h.address;
  map = map (category_of keys) (or_empty h.map);
  procs = map (process keys) (or_empty h.procs);
  boxes = map (mailbox keys) (or_empty h.boxes);
  lanes = map (lane keys) (or_empty h.lanes);
  inlets = map inlet (or_empty h.inlets);
}

-- ---- certificates and events

unfoldable pub certificate : List PubKey → DraftCert → CertSpec
certificate keys (certs.Made by c to from until at) =
    certificates.Made (number_of by.value) (category_of keys c) (number_of to.value) from until (numbers at)
certificate keys (certs.Given cert at) = certificates.Given cert.value (numbers at)

unfoldable pub happening : DraftEvent → Event
happening (events.Step host index) = happenings.Step (number_of host.value) index.value
happening (events.Frame host lane) = happenings.Frame (number_of host.value) lane.value
happening (events.Arrive conn count) = happenings.Arrive conn.value count
happening (events.Accept conn) = happenings.Accept conn.value
happening (events.Deliver conn) = happenings.Deliver conn.value
happening (events.Tick host to) = happenings.Tick (number_of host.value) to
happening (events.Inject conn bytes) = happenings.Inject conn.value bytes
happening (events.CopyBytes conn source from until) = happenings.CopyBytes conn.value source.value from until

-- ---- the document

abbrev pub host_key : DraftHost → PubKey
host_key h = key_of h.identity h.secret.value

abbrev pub host_keys : List DraftHost → List PubKey
host_keys hosts = map host_key hosts

unfoldable pub doc_by : List PubKey → Draft → Doc
doc_by keys d = record {
  hosts = map (host keys) d.hosts;
  moment = d.moment;
  budget = d.budget;
  certs = map (certificate keys) d.certs;
  links = numbers d.links;
  events = option_map (map happening) d.events;
}

unfoldable pub doc_of : Draft → Doc
doc_of d = doc_by (host_keys d.hosts) d
