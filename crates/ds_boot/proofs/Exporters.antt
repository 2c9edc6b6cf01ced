-- Hosts that begin: what is known of an exporter that is as the document says, and of a silent host.
use Rattle.std.proofs.Common.{◌≡◌, ℕ, true, false, Some, slice_get, sym, ◌∙◌, ap, subst}
use Rattle.ds_model.specs.Plan.{HostPlan, host_plan}
use Rattle.ds_exporter.specs.HostStates.{HostState}
use Rattle.ds_exporter.specs.Conditions.{IsFit}
use Rattle.ds_exporter.specs.PlainHosts.{host_of, site_of}
use Rattle.ds_exporter.specs.Stamping.{IsBefore}
use Rattle.ds_plan.specs.declared.doc.Doc.{Doc}
use Rattle.ds_plan.specs.declared.host.HostSpec.{HostSpec}
use Rattle.ds_plan.specs.Documents.{IsDocument, is_silent}
use Rattle.ds_setup.specs.Plans.{plan_of}
use Rattle.ds_setup.specs.Starts.{start_host}
use Rattle.ds_setup.proofs.Setups.{plan_host}
use Rattle.ds_boot.specs.Parts.{conns_to}
use Rattle.ds_boot.specs.Beginnings.{IsBegun}
use Rattle.ds_boot.specs.Nodes.{IsExporterOf}
use Rattle.ds_boot.specs.HostsBegin.{EachHostFits, EachHostIsSetup, EachIsBefore, EachSilentHostIsSetup, EachSiteIsPlanned}
use Rattle.ds_boot.proofs.Fitting.{fits}
use Rattle.ds_boot.proofs.Started.{before_now, host_now, silent_now, site_now}

module _ (d : Doc) (is : IsDocument d) (place : ℕ) (h : HostSpec) (there : slice_get d.hosts place ≡ Some h) (runs : is_silent h.secret ≡ false) (e : HostState) (begun : IsBegun d place h e) where
  pub exporter_fits : IsFit e
  exporter_fits = subst IsFit (sym begun.state) (fits d is place h there runs e.desk begun.desk)

  pub exporter_host : host_of e ≡ start_host d place h
  exporter_host = ap host_of begun.state ∙ host_now d is place h there runs e.desk begun.desk

  pub exporter_conns : e.conns ≡ conns_to d place h
  exporter_conns = ap (λ (x : HostState). x.conns) begun.state

  pub exporter_is : IsExporterOf d place e
  exporter_is = record {
    runs = ap (λ (p : HostPlan). p.silent) (plan_host d place h there) ∙ runs;
    site = ap site_of begun.state ∙ site_now d is place h there runs e.desk begun.desk;
    host = ap (λ (x : HostState). x.host) begun.state;
    stamps = subst (IsBefore 1) (sym begun.state) (before_now d is place h there runs e.desk begun.desk);
  }

pub silent_plan : (d : Doc) (place : ℕ) (h : HostSpec) → slice_get d.hosts place ≡ Some h → is_silent h.secret ≡ true → (host_plan (plan_of d) place).silent ≡ true
silent_plan d place h there silent = ap (λ (p : HostPlan). p.silent) (plan_host d place h there) ∙ silent

-- so it is of each

pub begun_fits : EachHostFits
begun_fits d place h k is = fits d is.document place h is.there is.runs k is.desk

pub begun_host : EachHostIsSetup
begun_host d place h k is = host_now d is.document place h is.there is.runs k is.desk

pub begun_site : EachSiteIsPlanned
begun_site d place h k is = site_now d is.document place h is.there is.runs k is.desk

pub begun_before : EachIsBefore
begun_before d place h k is = before_now d is.document place h is.there is.runs k is.desk

pub silent_hosts : EachSilentHostIsSetup
silent_hosts d place h is there silent = sym (silent_now d is place h there silent)
