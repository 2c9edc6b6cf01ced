-- A judgement over the scheme.
use Rattle.std.proofs.Common.{◌≡◌, Some, None, sym, subst}
use Rattle.std.specs.Prelude.{Result, Ok, Err}
use Rattle.ds_label.specs.declared.rule.Rule.{Rule}
use Rattle.ds_cert.specs.declared.lane.LaneCert.{LaneCert}
use Rattle.ds_model.specs.Scheme.{Scheme}
use Rattle.ds_model.specs.Desk.{Desk}
use Rattle.ds_model.specs.ExporterRules.{sender_rule}
use Rattle.ds_flow.specs.Chains.{flow_scheme}
use Rattle.ds_flow.specs.Judged.{Judges}
use Rattle.ds_flow.specs.declared.fault.FlowFault.{FlowFault}
use Rattle.ds_flow.specs.declared.fault.FlowFault.TheVariants.{Drop}
use Rattle.ds_scheme.specs.TheScheme.{scheme}
use Rattle.ds_scheme.proofs.Parts.{same_flow}
use Rattle.ds_exporter.specs.Checking.{lane_rule}

abbrev JudgedFor : Desk → LaneCert → Result (Unit {0}) FlowFault → Type 0
JudgedFor d cert r = (s : Scheme) → Judges (sender_rule (flow_scheme s) d.addresses d.store d.moment cert.receiver cert.label) r

here : (d : Desk) (cert : LaneCert) (r : Result (Unit {0}) FlowFault) → JudgedFor d cert r → Judges (lane_rule d cert) r
here d cert r j = subst (λ (s : Scheme). Judges (sender_rule s d.addresses d.store d.moment cert.receiver cert.label) r) same_flow (j scheme)

pub judged_ok : (d : Desk) (cert : LaneCert) (u : Unit {0}) → JudgedFor d cert (Ok u) → None ≡ lane_rule d cert
judged_ok d cert u j = sym (here d cert (Ok u) j)

pub judged_rule : (d : Desk) (cert : LaneCert) (rule : Rule) → JudgedFor d cert (Err (Drop rule)) → Some rule ≡ lane_rule d cert
judged_rule d cert rule j = sym (here d cert (Err (Drop rule)) j)

pub judged_fault : (d : Desk) (cert : LaneCert) (fault : FlowFault) (rule : Rule) → fault ≡ Drop rule → JudgedFor d cert (Err fault) → Some rule ≡ lane_rule d cert
judged_fault d cert fault rule is j = judged_rule d cert rule (subst (λ (f : FlowFault). JudgedFor d cert (Err f)) is j)
