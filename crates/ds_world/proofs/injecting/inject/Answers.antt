use Rattle.std.proofs.Common.{◌≡◌, List, false, true, slice_get, sym, ap, ◌∙◌}
use Rattle.ds_world.specs.declared.route.Route.{Route}
use Rattle.ds_world.specs.Inside.{state_of}
use Rattle.ds_world.proofs.Injected.{conn_injects, lane_conn_injects, link_there, no_conn_injects, nothing_injected, some_bytes}
use Rattle.ds_world.proofs.injecting.inject.Goals as goal

pub returns-in_default-clause-ok : goal.returns-in_default-clause-ok
returns-in_default-clause-ok c = no_conn_injects (state_of c.args.parts.now) c.args.conn c.args.bytes.now c.requires.fit.world
    (ap (λ (rs : List Route). slice_get rs c.args.conn) (sym c.requires.fit.routes) ∙ (sym c.route_of.ensures ∙ c.in_default.is))

pub returns-then-not-is_link-clause-ok : goal.returns-then-not-is_link-clause-ok
returns-then-not-is_link-clause-ok c =
    let none : c.is_link.result ≡ false = c.if-not-is_link.true in
    lane_conn_injects (state_of c.args.parts.now) c.args.conn c.in-Some.route (ap (λ (rs : List Route). slice_get rs c.args.conn) (sym c.requires.fit.routes) ∙ (sym c.route_of.ensures ∙ c.in-Some.is))
    c.requires.fit.world c.args.bytes.now c.is_link.result c.is_link.ensures none

pub returns-then-is_empty-clause-ok : goal.returns-then-is_empty-clause-ok
returns-then-is_empty-clause-ok c = nothing_injected (state_of c.args.parts.now) c.args.conn c.args.bytes.now c.is_empty.result c.requires.fit.world c.is_empty.ensures c.if-is_empty.true

pub append_at-requires : goal.append_at-requires
append_at-requires c = link_there (state_of c.args.parts.now) c.args.conn c.in-Some.route (ap (λ (rs : List Route). slice_get rs c.args.conn) (sym c.requires.fit.routes) ∙ (sym c.route_of.ensures ∙ c.in-Some.is)) c.requires.fit.world

pub returns-clause-ok : goal.returns-clause-ok
returns-clause-ok c =
    let some : c.is_link.result ≡ true = c.if-not-is_link.false in
    conn_injects (state_of c.args.parts.now) c.args.conn c.in-Some.route (ap (λ (rs : List Route). slice_get rs c.args.conn) (sym c.requires.fit.routes) ∙ (sym c.route_of.ensures ∙ c.in-Some.is))
    c.requires.fit.world c.args.bytes.now c.append_at.new.links.items c.in_ok-append_at.ensures.ok (c.is_link.ensures.0 some) (some_bytes c.args.bytes.now c.is_empty.result c.is_empty.ensures c.if-is_empty.false)
