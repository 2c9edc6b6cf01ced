use Rattle.std.proofs.Common.{ℕ, List, map, slice_get, refl, sym, ap, ◌∙◌}
use Rattle.ds_model.specs.Plan.{HostPlan}
use Rattle.ds_model.specs.World.{Conn}
use Rattle.ds_model.specs.ConnectionStep.{accept}
use Rattle.ds_model.specs.Step.{Accept}
use Rattle.ds_scheme.specs.TheScheme.{scheme}
use Rattle.ds_hosts.specs.Nodes.{node_of}
use Rattle.ds_world.specs.declared.route.Route.{Route}
use Rattle.ds_world.specs.Inside.{state_of}
use Rattle.ds_world.proofs.Answered.{conn_asks_if, no_conn_asks}
use Rattle.ds_world.proofs.connecting.accept.Goals as goal

pub returns-in_default-clause-ok : goal.returns-in_default-clause-ok
returns-in_default-clause-ok c = no_conn_asks (λ (plan : HostPlan) (k : Conn) (bytes : List ℕ). accept scheme plan k bytes) (state_of c.args.parts.now) c.args.conn (Accept c.args.conn) refl c.requires.fit.world
    (ap (λ (rs : List Route). slice_get rs c.args.conn) (sym c.requires.fit.routes) ∙ (sym c.route_of.ensures ∙ c.in_default.is))

pub accept_at-requires-clause-later : goal.accept_at-requires-clause-later
accept_at-requires-clause-later c = λ x h. (c.requires.fit.world.nodes c.in-Some.route.host x h).stamps

pub returns-clause-ok : goal.returns-clause-ok
returns-clause-ok c = conn_asks_if (λ (plan : HostPlan) (k : Conn) (bytes : List ℕ). accept scheme plan k bytes) (state_of c.args.parts.now) c.args.conn (Accept c.args.conn) refl c.requires.fit.world c.in-Some.route
    (ap (λ (rs : List Route). slice_get rs c.args.conn) (sym c.requires.fit.routes) ∙ (sym c.route_of.ensures ∙ c.in-Some.is)) (map node_of c.accept_at.new.nodes.items) c.accept_at.result c.accept_at.ensures.ok
