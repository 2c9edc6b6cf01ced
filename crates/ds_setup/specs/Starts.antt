-- The world of a document before its first event.
use Rattle.std.specs.Prelude.{ℕ, suc, ◌==◌, Bool, false, if◌then◌else◌, List, [], ◌∷◌, ◌++◌, map, filter, flat_map, replicate, Option, Some, None}
use Rattle.std.specs.List.{fold}
use Rattle.ds_label.specs.declared.category.Category.{Category}
use Rattle.lms_sig.specs.declared.params.Params.{Params}
use Rattle.ds_cert.specs.declared.address.Address.{Address}
use Rattle.ds_cert.specs.declared.delegation.Delegation.{Delegation}
use Rattle.ds_cert.specs.declared.cert.Cert.{Cert}
use Rattle.ds_cert.specs.declared.cert.Cert.TheVariants as certs
use Rattle.ds_cert.specs.NoDoubles.{with_delegation, with_address}
use Rattle.ds_model.specs.Desk.{Desk}
use Rattle.ds_model.specs.World.{Process, Worker, Conn, Host, World}
use Rattle.ds_scheme.specs.TheScheme.{scheme}
use Rattle.ds_plan.specs.declared.doc.Doc.{Doc}
use Rattle.ds_plan.specs.declared.host.HostSpec.{HostSpec}
use Rattle.ds_plan.specs.declared.host.Secret.{Secret}
use Rattle.ds_plan.specs.declared.host.Secret.TheVariants.{Seed, Key}
use Rattle.ds_plan.specs.declared.host.LaneSpec.{LaneSpec}
use Rattle.ds_plan.specs.declared.process.ProcSpec.{ProcSpec}
use Rattle.ds_plan.specs.Signed.{signed_address}
use Rattle.ds_plan.specs.Documents.{is_silent, is_among}
use Rattle.ds_setup.specs.Lists.{each}
use Rattle.ds_setup.specs.Signed.{DocCert, doc_certs, leaf_behind, signed_lane}
use Rattle.ds_setup.specs.Plans.{inlets_of, conn_plans_of}

-- DESKS

-- the own address certificate of a running host that has an address
abbrev pub own_address : Params → Secret → Option (List ℕ) → List Address
own_address identity (Seed secret) (Some address) = signed_address identity (Seed secret) address ∷ []
own_address identity (Seed secret) None = []
own_address identity (Key key) address = []

-- those of all hosts, in order
abbrev pub own_addresses : List HostSpec → List Address
own_addresses hosts = flat_map (λ h. own_address h.identity h.secret h.address) hosts

-- a certificate as a delegation, and as an address certificate, where it is one
abbrev pub delegations_in : Cert → List Delegation
delegations_in (certs.Delegation new) = new ∷ []
delegations_in (certs.Address new) = []

abbrev pub addresses_in : Cert → List Address
addresses_in (certs.Delegation new) = []
addresses_in (certs.Address new) = new ∷ []

-- the document's certificates that a host keeps, in order
abbrev pub kept_at : (host : ℕ) → List DocCert → List Cert
kept_at host all = map (λ c. c.cert) (filter (λ c. is_among host c.at) all)

-- whether it is the host that signs at setup
abbrev pub is_by : (host : ℕ) → Option ℕ → Bool
is_by host None = false
is_by host (Some by) = by == host

-- the document's delegations that a host signs, in order
abbrev pub issued_by : (host : ℕ) → List DocCert → List Delegation
issued_by host all = flat_map (λ c. delegations_in c.cert) (filter (λ c. is_by host c.by) all)

-- each certificate once
abbrev pub delegations_once : List Delegation → List Delegation
delegations_once all = fold (λ kept new. with_delegation new kept) [] all

abbrev pub addresses_once : List Address → List Address
addresses_once all = fold (λ kept new. with_address new kept) [] all

-- Of addresses a desk keeps every host's own one, and then those of the document.
abbrev pub running_desk : Doc → (host : ℕ) → HostSpec → Desk
running_desk d host h = record {
  moment = d.moment;
  rows = h.map;
  store = delegations_once (flat_map delegations_in (kept_at host (doc_certs d.hosts d.certs)));
  addresses =
      addresses_once (own_addresses d.hosts ++ flat_map addresses_in (kept_at host (doc_certs d.hosts d.certs)));
  issued = issued_by host (doc_certs d.hosts d.certs);
  leaf = leaf_behind h host d.certs;
}

-- a silent host's
abbrev pub empty_desk : Desk
empty_desk = record { moment = 0; rows = []; store = []; addresses = []; issued = []; leaf = 0 }

abbrev pub start_desk : Doc → (host : ℕ) → HostSpec → Desk
start_desk d host h = if is_silent h.secret then empty_desk else running_desk d host h

-- HOSTS

-- a process at its script's first operation, which may use the names of the host's rows
abbrev pub process_of : (rows : List Category) → ProcSpec → Process
process_of rows p = record {
  script = p.script;
  course = record { place = 0; registers = replicate 8 []; notes = [] };
  label = p.label;
  own = p.own;
  clear = p.clear;
  names = rows;
  made = p.made;
  hand = None;
}

-- a lane's worker, whose stream is the hello
abbrev pub worker_of : List HostSpec → HostSpec → (place : ℕ) → LaneSpec → Worker
worker_of hosts h place lane =
    record { hand = []; leaf = 0; stream = scheme.hello (signed_lane hosts h (suc place) lane) }

abbrev pub start_host : Doc → (place : ℕ) → HostSpec → Host
start_host d place h = record {
  desk = start_desk d place h;
  procs = map (process_of h.map) h.procs;
  boxes = map (λ b. record { waiting = []; entries = [] }) h.boxes;
  queues = map (λ l. []) h.lanes;
  workers = each (worker_of d.hosts h) h.lanes;
  logs = map (λ l. []) h.lanes;
  inlets = map (λ i. None) (inlets_of d.hosts place h);
}

-- CONNECTIONS

-- nothing arrived
abbrev pub new_conn : Conn
new_conn = record { link = []; count = 0; taken = 0; hand = []; passed = None; failed = None; lines = [] }

abbrev pub start_of : Doc → World
start_of d = record { hosts = each (start_host d) d.hosts; conns = map (λ c. new_conn) (conn_plans_of d.hosts d.links) }
