use Rattle.std.proofs.Common.{[], sym, ap, ◌∙◌}
use Rattle.ds_model.specs.ConnectionStep.{deliver}
use Rattle.ds_scheme.specs.TheScheme.{scheme}
use Rattle.ds_exporter.specs.PlainHosts.{arrived_at, conn_at, site_of}
use Rattle.ds_hosts.specs.declared.node.Node.{Node}
use Rattle.ds_hosts.specs.Nodes.{conn_in, node_of}
use Rattle.ds_hosts.proofs.Keeps.{other_conn, rows_after}
use Rattle.ds_hosts.proofs.node.Node.deliver.Goals as goal

pub returns-in-Running-clause-others : goal.returns-in-Running-clause-others
returns-in-Running-clause-others c =
    let e = c.in-Running.exporter in
    let d = c.deliver_of.new.exporter in
    let asks = deliver scheme (site_of e) (conn_at [] c.args.conn e) (arrived_at c.args.conn e) in
    let rows = rows_after e d c.args.conn asks c.deliver_of.result (c.deliver_of.ensures.ok []) c.deliver_of.ensures.err in
    λ link place apart. other_conn e d link place rows c.deliver_of.ensures.site (c.deliver_of.ensures.others place apart) ∙ ap (λ (x : Node). conn_in link place (node_of x)) (sym c.in-Running.is)
