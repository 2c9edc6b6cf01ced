-- What holds of each host of a document as it begins.
use Rattle.std.specs.Prelude.{◌≡◌, ℕ, ◌==◌, true, false, List, [], All, length, filter, slice_get, Some, None}
use Rattle.ds_model.specs.Plan.{ConnPlan, conn_plan, host_plan}
use Rattle.ds_plan.specs.declared.doc.Doc.{Doc}
use Rattle.ds_plan.specs.declared.host.HostSpec.{HostSpec}
use Rattle.ds_plan.specs.Documents.{IsDocument, is_silent}
use Rattle.ds_setup.specs.Plans.{plan_of}
use Rattle.ds_setup.specs.Starts.{new_conn, start_host}
use Rattle.ds_desk.specs.Desks.{DeskView}
use Rattle.ds_inlet.specs.Connections.{Connection}
use Rattle.ds_inlet.specs.PlainConnections.{plain_conn}
use Rattle.ds_exporter.specs.HostStates.{HostState}
use Rattle.ds_exporter.specs.PlainHosts.{host_of, site_of}
use Rattle.ds_exporter.specs.Conditions.{IsFit}
use Rattle.ds_exporter.specs.Stamping.{IsBefore}
use Rattle.ds_boot.specs.Desks.{IsDeskOf}
use Rattle.ds_boot.specs.Parts.{conns_to}
use Rattle.ds_boot.specs.Beginnings.{state_begun}
use Rattle.ds_hosts.specs.Nodes.{silent_host}

-- RUNNING HOSTS

-- the document has the host at that place; it runs, and the desk is its own
pub record IsRunning (d : Doc) (place : ℕ) (h : HostSpec) (k : DeskView) : Type 0 where
  pub document : IsDocument d
  pub there : slice_get d.hosts place ≡ Some h
  pub runs : is_silent h.secret ≡ false
  pub desk : IsDeskOf d place h k

-- so it is of each such host
abbrev pub OfEachHost : (Doc → ℕ → HostSpec → HostState → Type 0) → Type 0
OfEachHost P = (d : Doc) (place : ℕ) (h : HostSpec) (k : DeskView) → IsRunning d place h k → P d place h (state_begun d place h k)

-- its parts fit together
abbrev pub EachHostFits : Type 0
EachHostFits = OfEachHost (λ d place h e. IsFit e)

-- it is what setup has
abbrev pub EachHostIsSetup : Type 0
EachHostIsSetup = OfEachHost (λ d place h e. host_of e ≡ start_host d place h)

-- at the site that the plan has
abbrev pub EachSiteIsPlanned : Type 0
EachSiteIsPlanned = OfEachHost (λ d place h e. site_of e ≡ host_plan (plan_of d) place)

-- and nothing is entered
abbrev pub EachIsBefore : Type 0
EachIsBefore = OfEachHost (λ d place h e. IsBefore 1 e)

-- SILENT HOSTS

-- one is what setup has
abbrev pub EachSilentHostIsSetup : Type 0
EachSilentHostIsSetup = (d : Doc) (place : ℕ) (h : HostSpec) → IsDocument d → slice_get d.hosts place ≡ Some h → is_silent h.secret ≡ true → silent_host ≡ start_host d place h

-- CONNECTIONS

-- in the plain world nothing arrived
abbrev pub IsNew : Connection → Type 0
IsNew k = plain_conn [] None k ≡ new_conn

-- the plan's connection with its number leads to the host at that place
abbrev pub IsPlannedTo : Doc → (place : ℕ) → Connection → Type 0
IsPlannedTo d place k = (conn_plan (plan_of d) k.who.index).host ≡ place

-- the plan's connections to the host at a place
abbrev pub conns_planned : Doc → (place : ℕ) → List ConnPlan
conns_planned d place = filter (λ c. c.host == place) (plan_of d).conn_plans

-- those to a host are new, they are the plan's, and all of these
pub record ConnsArePlanned (d : Doc) (place : ℕ) (h : HostSpec) : Type 0 where
  pub new : All IsNew (conns_to d place h)
  pub planned : All (IsPlannedTo d place) (conns_to d place h)
  pub count : length (conns_to d place h) ≡ length (conns_planned d place)

abbrev pub EachConnIsPlanned : Type 0
EachConnIsPlanned = (d : Doc) (place : ℕ) (h : HostSpec) → ConnsArePlanned d place h
