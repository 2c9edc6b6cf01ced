use Rattle.std.proofs.Common.{◌≡◌, ◌∙◌, length, sym, ap, arith}
use Rattle.ds_setup.specs.Plans.{plan_of}
use Rattle.ds_exporter.proofs.IfDone.{if_done}
use Rattle.ds_world.specs.Worlds.{WorldState, routes_of}
use Rattle.ds_world.proofs.Counts.{conns_planned}
use Rattle.ds_world.proofs.world.World.conns.Goals as goal

pub returns : goal.returns
returns c =
    let v = c.self.inside.parts.routes in
    let same : c.len.result ≡ length (routes_of c.self.inside.parts.doc) = omega (arith, c.len.ensures, v.ok, ap length c.self.invariant.routes) in
    if_done (λ n. n ≡ c.len.result) (λ n. n ≡ length (plan_of c.args.self.now.doc).conn_plans) c.number.result
    (λ n e. e ∙ (same ∙ (ap (λ (w : WorldState). length (routes_of w.doc)) c.self.view_is ∙ sym (conns_planned c.args.self.now.doc)))) c.number.ensures
