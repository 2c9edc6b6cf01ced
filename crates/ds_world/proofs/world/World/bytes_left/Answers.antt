use Rattle.std.proofs.Common.{◌≡◌, ◌∙◌, ◌-◌, List, Some, None, length, slice_get, sym, ap, subst}
use Rattle.ds_model.specs.Schedule.{bytes_left}
use Rattle.ds_setup.specs.Plans.{plan_of}
use Rattle.ds_world.specs.declared.route.Route.{Route}
use Rattle.ds_world.specs.Inside.{state_of}
use Rattle.ds_world.specs.Worlds.{WorldState, routes_of, world_of}
use Rattle.ds_world.proofs.Counts.{bytes_left_of, none_left_of_none}
use Rattle.ds_world.proofs.world.World.bytes_left.Goals as goal

pub returns-in_default : goal.returns-in_default
returns-in_default c =
    let none : slice_get (routes_of c.self.inside.parts.doc) c.args.conn ≡ None = ap (λ (rs : List Route). slice_get rs c.args.conn) (sym c.self.invariant.routes) ∙ (sym c.route_of.ensures ∙ c.in_default.is) in
    subst (λ (w : WorldState). 0 ≡ bytes_left (plan_of w.doc) (world_of w) c.args.conn) c.self.view_is (sym (none_left_of_none (state_of c.self.inside.parts) c.args.conn none))

pub returns : goal.returns
returns c =
    let w : WorldState = state_of c.self.inside.parts in
    let r : Route = c.in-Some.route in
    let there : slice_get (routes_of w.doc) c.args.conn ≡ Some r = ap (λ (rs : List Route). slice_get rs c.args.conn) (sym c.self.invariant.routes) ∙ (sym c.route_of.ensures ∙ c.in-Some.is) in
    subst (λ (v : WorldState). c.saturating_sub.result ≡ bytes_left (plan_of v.doc) (world_of v) c.args.conn) c.self.view_is
    (c.saturating_sub.ensures ∙ ((λ i. length (c.stream_of-stream.ensures i) - c.arrived_of-arrived.ensures i) ∙ sym (bytes_left_of w c.args.conn r there c.self.invariant.world)))
