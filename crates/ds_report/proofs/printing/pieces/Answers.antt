use Rattle.std.proofs.Common.{◌≡◌, ◌∙◌, List, map, sym, ap, subst}
use Rattle.ds_plan.specs.declared.doc.Doc.{Doc}
use Rattle.ds_hosts.specs.Nodes.{NodeState, node_of}
use Rattle.ds_world.specs.declared.route.Route.{Route}
use Rattle.ds_world.specs.Worlds.{routes_of}
use Rattle.ds_report.specs.Texts.{ArePlanned, HaveRoom}
use Rattle.ds_report.proofs.Texts.{rooms_are, planned_are}
use Rattle.ds_report.proofs.printing.pieces.Goals as goal

pub push_nodes-requires : goal.push_nodes-requires
push_nodes-requires c =
    let w = c.args.world.now in
    let nodes : map node_of c.as_slice-nodes.result.now ≡ w.nodes = ap (map node_of) c.as_slice-nodes.ensures.value ∙ c.nodes.ensures in
    subst (λ (ns : List NodeState). ArePlanned c.doc-doc.result.now ns) (sym nodes) (subst (λ (d : Doc). ArePlanned d w.nodes) (sym c.doc-doc.ensures) (planned_are w c.fit.ensures))

pub push_routes-requires-clause-room : goal.push_routes-requires-clause-room
push_routes-requires-clause-room c =
    let w = c.args.world.now in
    let nodes : map node_of c.as_slice-nodes.result.now ≡ w.nodes = ap (map node_of) c.as_slice-nodes.ensures.value ∙ c.nodes.ensures in
    let routes : c.as_slice-routes.result.now ≡ routes_of w.doc = c.as_slice-routes.ensures.value ∙ c.routes.ensures in
    subst (λ (rs : List Route). HaveRoom (map node_of c.as_slice-nodes.result.now) rs) (sym routes)
    (subst (λ (ns : List NodeState). HaveRoom ns (routes_of w.doc)) (sym nodes) (rooms_are w c.fit.ensures))
