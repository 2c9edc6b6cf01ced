use Rattle.std.proofs.Common.{◌≡◌, ◌∙◌, Some, length, slice_get, sym, subst}
use Rattle.std.specs.Prelude.{IfOk}
use Rattle.ds_model.specs.Plan.{host_plan}
use Rattle.ds_setup.specs.Plans.{plan_of}
use Rattle.ds_exporter.proofs.IfDone.{if_done}
use Rattle.ds_world.specs.Inside.{state_of}
use Rattle.ds_world.specs.Worlds.{WorldState}
use Rattle.ds_world.proofs.Counts.{lanes_planned, none_planned}
use Rattle.ds_world.proofs.world.World.lanes_of.Goals as goal

pub returns-in-Some : goal.returns-in-Some
returns-in-Some c =
    let there : slice_get c.self.inside.parts.doc.hosts c.args.host ≡ Some c.in-Some.spec.now = sym c.in-Some.ensures in
    subst (λ (w : WorldState). IfOk c.number.result (λ n. n ≡ length (host_plan (plan_of w.doc) c.args.host).lanes)) c.self.view_is
    (let w : WorldState = state_of c.self.inside.parts in
    if_done (λ n. n ≡ c.len.result) (λ n. n ≡ length (host_plan (plan_of w.doc) c.args.host).lanes) c.number.result
    (λ n e. e ∙ (c.len.ensures ∙ sym (lanes_planned c.self.inside.parts.doc c.args.host c.in-Some.spec.now there))) c.number.ensures)

pub returns-in-None : goal.returns-in-None
returns-in-None c = subst (λ (w : WorldState). 0 ≡ length (host_plan (plan_of w.doc) c.args.host).lanes) c.self.view_is (sym (none_planned c.self.inside.parts.doc c.args.host (sym c.in-None.ensures)).1)
