-- Where there is no process, no lane and no connection nothing is entered.
use Rattle.std.proofs.Common.{ℕ, ◌≤◌, List, length, refl, sym, ap, ◌∙◌, subst}
use Rattle.std.proofs.lemmas.List.{length-map}
use Rattle.std.proofs.lemmas.Option.{none-some, slice_get_past}
use Rattle.ds_model.specs.Access.{access_of_lane, access_of_proc}
use Rattle.ds_scheme.specs.TheScheme.{scheme}
use Rattle.ds_exporter.specs.HostStates.{HostState}
use Rattle.ds_exporter.specs.PlainHosts.{host_of, plain_process, plain_worker, site_of}
use Rattle.ds_exporter.specs.Conditions.{lane_actor}
use Rattle.ds_exporter.specs.Stepping.{proc_actor}
use Rattle.ds_exporter.specs.Entering.{frame_access, step_access}
use Rattle.ds_exporter.proofs.Entering.{enters_same}
use Rattle.ds_hosts.specs.Entering.{AcceptEnters, DeliverEnters, FrameEnters, StepEnters}

module _ (e : HostState) (stamp place : ℕ) where
  pub none_steps : length e.procs ≤ place → StepEnters stamp place e e
  none_steps le = enters_same stamp (proc_actor e.host place) (step_access place e) e e
      (ap (access_of_proc scheme (site_of e) (host_of e) place)
      (slice_get_past (host_of e).procs place (subst (λ (n : ℕ). n ≤ place) (sym (length-map e.procs (plain_process e.desk.here e.desk.desk.rows))) le))) refl

  pub none_frames : length e.lanes ≤ place → FrameEnters stamp place e e
  none_frames le = enters_same stamp (lane_actor e.host place) (frame_access place e) e e
      (ap (access_of_lane scheme (site_of e) (host_of e) place) (slice_get_past (host_of e).workers place (subst (λ (n : ℕ). n ≤ place) (sym (length-map e.lanes plain_worker)) le))) refl

  pub none_accepts : length e.conns ≤ place → (link : List ℕ) → AcceptEnters link stamp place e e
  none_accepts le link = λ k h. absurd (none-some k (sym (slice_get_past e.conns place le) ∙ h))

  pub none_delivers : length e.conns ≤ place → (link : List ℕ) → DeliverEnters link stamp place e e
  none_delivers le link = λ k h. absurd (none-some k (sym (slice_get_past e.conns place le) ∙ h))
