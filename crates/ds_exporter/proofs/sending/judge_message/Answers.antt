use Rattle.std.proofs.Common.{map, sym, ap, ◌∙◌}
use Rattle.ds_model.specs.Scheme.{Scheme}
use Rattle.ds_model.specs.ExporterRules.{attach}
use Rattle.ds_desk.specs.declared.state.DeskState.{DeskState}
use Rattle.ds_desk.specs.Desks.{kept_of}
use Rattle.ds_scheme.specs.TheScheme.{scheme}
use Rattle.ds_scheme.proofs.Parts.{same_flow}
use Rattle.ds_exporter.specs.HostStates.{lane_of}
use Rattle.ds_exporter.proofs.Verdicts.{has_lane}
use Rattle.ds_exporter.proofs.sending.judge_message.Goals as goal

pub returns-clause-verdict : goal.returns-clause-verdict
returns-clause-verdict c =
    let d = c.args.desk.now in
    let e = c.send_rule.new.desk in
    let m = c.args.message.now in
    let none = sym c.in_ok-rule.ensures.rule ∙ c.in_default.is in
    record {
      rule = none;
      attached = c.in_ok-certs.ensures.certs scheme ∙ ap (λ (s : Scheme). attach s e.store.items e.moment e.here m.label m.own m.clear) same_flow
          ∙ ap (λ (x : DeskState). attach scheme x.store.items x.moment x.here m.label m.own m.clear) c.in_ok-rule.ensures.same;
      fits = c.in_ok-certs.ensures.fits;
      bytes = c.in_ok-certs.ensures.bytes;
      parts = c.show_parts.ensures;
      lane = has_lane (kept_of d) (map lane_of c.args.lanes.now.items) m c.number_for-lane.result c.number_for-lane.ensures none;
    }
