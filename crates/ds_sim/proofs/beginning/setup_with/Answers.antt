use Rattle.std.proofs.Common.{◌≡◌, ◌∙◌, ℕ, List, ap, subst, sym, map, length, replicate, arith}
use Rattle.ds_hosts.specs.Nodes.{NodeState, node_of}
use Rattle.ds_boot.specs.Nodes.{AreHostsOf}
use Rattle.ds_world.specs.Worlds.{IsWorld, WorldState, world_of, routes_of}
use Rattle.ds_plan.specs.declared.doc.Doc.{Doc}
use Rattle.ds_world.specs.declared.route.Route.{Route}
use Rattle.ds_sim.proofs.Begun.{begins_as_setup, no_bytes}
use Rattle.ds_sim.proofs.beginning.setup_with.Goals as goal

abbrev with_links : Doc → List NodeState → List (List ℕ) → WorldState
with_links d all links = record { doc = d; nodes = all; links = links; count = 0 }

pub new-requires-clause-world : goal.new-requires-clause-world
new-requires-clause-world c =
    let all : List NodeState = map node_of c.in_ok-nodes.nodes.items in
    let hosts : AreHostsOf c.args.doc all = record { hosts = c.in_ok-nodes.ensures.hosts; nodes = c.in_ok-nodes.ensures.nodes; conns = c.in_ok-nodes.ensures.conns } in
    let links : replicate (length (routes_of c.args.doc)) no_bytes ≡ c.in_ok-links.links.items =
    let count : length c.in_ok-routes.routes.items ≡ c.len.result = omega (arith, c.len.ensures, c.in_ok-routes.routes.ok.0) in
    ap (λ (n : ℕ). replicate n no_bytes) (ap (λ (r : List Route). length r) (sym c.in_ok-routes.ensures) ∙ count) ∙ sym c.in_ok-links.ensures in
    subst (λ links. IsWorld (with_links c.args.doc all links)) links (begins_as_setup c.args.doc all c.requires.document hosts).kept

pub returns-clause-start : goal.returns-clause-start
returns-clause-start c =
    let all : List NodeState = map node_of c.in_ok-nodes.nodes.items in
    let hosts : AreHostsOf c.args.doc all = record { hosts = c.in_ok-nodes.ensures.hosts; nodes = c.in_ok-nodes.ensures.nodes; conns = c.in_ok-nodes.ensures.conns } in
    let links : replicate (length (routes_of c.args.doc)) no_bytes ≡ c.in_ok-links.links.items =
    let count : length c.in_ok-routes.routes.items ≡ c.len.result = omega (arith, c.len.ensures, c.in_ok-routes.routes.ok.0) in
    ap (λ (n : ℕ). replicate n no_bytes) (ap (λ (r : List Route). length r) (sym c.in_ok-routes.ensures) ∙ count) ∙ sym c.in_ok-links.ensures in
    ap world_of c.new.ensures
    ∙ ap (λ links. world_of (with_links c.args.doc all links)) (sym links)
    ∙ (begins_as_setup c.args.doc all c.requires.document hosts).start
