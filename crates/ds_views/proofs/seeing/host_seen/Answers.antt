use Rattle.std.proofs.Common.{◌≡◌, ◌∙◌, List, Option, ap, subst, map, option_map, slice_get}
use Rattle.std.specs.Prelude.{IfOk}
use Rattle.ds_model.specs.Views.{HostView}
use Rattle.ds_hosts.specs.Nodes.{NodeState, node_of}
use Rattle.ds_views.specs.Views.{node_view}
use Rattle.ds_views.proofs.Arrivals.{host_is}
use Rattle.ds_views.proofs.seeing.host_seen.Goals as goal

pub returns : goal.returns
returns c =
    let w = c.args.world.now in
    let nodes : map node_of c.as_slice.result.now ≡ w.nodes = ap (map node_of) c.as_slice.ensures.value ∙ c.nodes-nodes.ensures in
    subst (λ (o : Option HostView). IfOk c.host_among.result (λ v. v ≡ o))
    (ap (λ (ns : List NodeState). option_map node_view (slice_get ns c.args.host)) nodes ∙ host_is w c.args.host c.fit.ensures) c.host_among.ensures
