use Rattle.std.proofs.Common.{◌≡◌, ◌∙◌, List, Option, ap, subst, map, option_map, slice_get}
use Rattle.std.specs.Prelude.{IfOk}
use Rattle.ds_model.specs.Views.{ProcView, proc_in, proc_view}
use Rattle.ds_hosts.specs.Nodes.{NodeState, node_of, plain_host}
use Rattle.ds_views.proofs.seeing.process_seen.Goals as goal

pub returns : goal.returns
returns c =
    let nodes : map node_of c.as_slice.result.now ≡ c.args.world.now.nodes = ap (map node_of) c.as_slice.ensures.value ∙ c.nodes-nodes.ensures in
    subst (λ (o : Option ProcView). IfOk c.process_among.result (λ v. v ≡ o))
    (ap (λ (ns : List NodeState). option_map proc_view (proc_in (slice_get (map plain_host ns) c.args.host) c.args.index)) nodes) c.process_among.ensures
