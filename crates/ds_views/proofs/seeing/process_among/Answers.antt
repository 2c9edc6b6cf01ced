use Rattle.std.proofs.Common.{◌≡◌, Option, Some, None, IfOk, slice_get, option_map, refl, sym, ap, subst}
use Rattle.ds_model.specs.World.{Host}
use Rattle.ds_model.specs.Views.{proc_in, proc_view}
use Rattle.ds_hosts.specs.Nodes.{node_of, plain_host}
use Rattle.ds_hosts.proofs.Places.{past_at, read_at}
use Rattle.ds_views.proofs.Lookups.{seen_at}
use Rattle.ds_views.proofs.seeing.process_among.Goals as goal

pub returns-in-Some : goal.returns-in-Some
returns-in-Some c =
    let nodes = c.args.nodes.now in
    let node = c.in-Some.node.now in
    let there : slice_get nodes c.args.host ≡ Some node = read_at nodes nodes c.args.host node refl c.in-Some.ensures.lookup.0 c.in-Some.ensures.lookup.1 in
    subst (λ (o : Option Host). IfOk c.process_of_node.result (λ v. v ≡ option_map proc_view (proc_in o c.args.index)))
    (sym (seen_at node_of plain_host nodes c.args.host (Some node) there)) c.process_of_node.ensures

pub returns-in-None : goal.returns-in-None
returns-in-None c =
    let nodes = c.args.nodes.now in
    let none : slice_get nodes c.args.host ≡ None = past_at nodes nodes c.args.host refl c.in-None.ensures.lookup.0 in
    sym (ap (λ (o : Option Host). option_map proc_view (proc_in o c.args.index)) (seen_at node_of plain_host nodes c.args.host None none))
