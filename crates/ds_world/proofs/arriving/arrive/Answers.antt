use Rattle.std.proofs.Common.{◌<◌, ℕ, List, map, slice_get, sym, ap, subst, ◌∙◌}
use Rattle.std.proofs.lemmas.List.{length-map}
use Rattle.ds_hosts.specs.Nodes.{node_of}
use Rattle.ds_world.specs.declared.route.Route.{Route}
use Rattle.ds_world.specs.Inside.{state_of}
use Rattle.ds_world.proofs.Fed.{conn_arrives_if, no_conn_arrives}
use Rattle.ds_world.proofs.arriving.arrive.Goals as goal

pub returns-in_default-clause-ok : goal.returns-in_default-clause-ok
returns-in_default-clause-ok c = no_conn_arrives (state_of c.args.parts.now) c.args.conn c.args.count c.requires.fit.world
    (ap (λ (rs : List Route). slice_get rs c.args.conn) (sym c.requires.fit.routes) ∙ (sym c.route_of.ensures ∙ c.in_default.is))

pub next_bytes-requires-clause-leads : goal.next_bytes-requires-clause-leads
next_bytes-requires-clause-leads c =
    let route = ap (λ (rs : List Route). slice_get rs c.args.conn) (sym c.requires.fit.routes) ∙ (sym c.route_of.ensures ∙ c.in-Some.is) in
    subst (λ (n : ℕ). c.in-Some.route.host < n) (length-map c.args.parts.now.nodes.items node_of) (c.requires.fit.world.routes c.args.conn c.in-Some.route route).leads

pub next_bytes-requires-clause-front : goal.next_bytes-requires-clause-front
next_bytes-requires-clause-front c =
    let route = ap (λ (rs : List Route). slice_get rs c.args.conn) (sym c.requires.fit.routes) ∙ (sym c.route_of.ensures ∙ c.in-Some.is) in
    (c.requires.fit.world.routes c.args.conn c.in-Some.route route).front

pub arrive_at-requires-clause-later : goal.arrive_at-requires-clause-later
arrive_at-requires-clause-later c = λ x h. (c.requires.fit.world.nodes c.in-Some.route.host x h).stamps

pub returns-clause-ok : goal.returns-clause-ok
returns-clause-ok c =
    let route = ap (λ (rs : List Route). slice_get rs c.args.conn) (sym c.requires.fit.routes) ∙ (sym c.route_of.ensures ∙ c.in-Some.is) in
    conn_arrives_if (state_of c.args.parts.now) c.args.conn c.args.count c.in-Some.route route c.requires.fit.world c.as_slice.result.now (c.as_slice.ensures ∙ c.in_ok-piece.ensures) (map node_of c.arrive_at.new.nodes.items) c.arrive_at.result c.arrive_at.ensures.ok
