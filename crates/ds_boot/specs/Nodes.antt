-- A document's hosts in a run, before the first event.
use Rattle.std.specs.Prelude.{◌≡◌, ℕ, false, List, map, slice_get, Some}
use Rattle.ds_model.specs.Plan.{host_plan}
use Rattle.ds_exporter.specs.HostStates.{HostState}
use Rattle.ds_exporter.specs.PlainHosts.{site_of}
use Rattle.ds_exporter.specs.Stamping.{IsBefore}
use Rattle.ds_hosts.specs.Nodes.{NodeState, Running, Silent, IsEarlier, IsPlanOf, conns_of, plain_host}
use Rattle.ds_plan.specs.declared.doc.Doc.{Doc}
use Rattle.ds_setup.specs.Lists.{each}
use Rattle.ds_setup.specs.Plans.{plan_of}
use Rattle.ds_setup.specs.Starts.{start_of}
use Rattle.ds_boot.specs.Parts.{conns_to}

-- an exporter is of the document's host at that place, which runs, and nothing is entered
pub record IsExporterOf (d : Doc) (place : ℕ) (e : HostState) : Type 0 where
  pub runs : (host_plan (plan_of d) place).silent ≡ false
  pub site : site_of e ≡ host_plan (plan_of d) place
  pub host : e.host ≡ place
  pub stamps : IsBefore 1 e

-- an exporter has that place
abbrev pub HasPlace : (place : ℕ) → NodeState → Type 0
HasPlace place (Running e) = e.host ≡ place
HasPlace place (Silent conns) = Unit {0}

-- a host of the run is the document's at that place, and nothing is entered
pub record IsNodeOf (d : Doc) (place : ℕ) (x : NodeState) : Type 0 where
  pub plan : IsPlanOf (host_plan (plan_of d) place) x
  pub host : HasPlace place x
  pub stamps : IsEarlier 1 x

-- so is each of them
abbrev pub AreNodesOf : Doc → List NodeState → Type 0
AreNodesOf d all = (place : ℕ) (x : NodeState) → slice_get all place ≡ Some x → IsNodeOf d place x

-- all of them are the document's hosts as setup says
pub record AreHostsOf (d : Doc) (all : List NodeState) : Type 0 where
  pub hosts : map plain_host all ≡ (start_of d).hosts
  pub nodes : AreNodesOf d all
  pub conns : map conns_of all ≡ each (conns_to d) d.hosts
