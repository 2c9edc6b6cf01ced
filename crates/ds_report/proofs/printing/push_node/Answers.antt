use Rattle.std.proofs.Common.{◌∙◌, subst}
use Rattle.ds_model.specs.Plan.{host_plan}
use Rattle.ds_setup.specs.Plans.{plan_of}
use Rattle.ds_hosts.specs.declared.node.Node.{Node}
use Rattle.ds_hosts.specs.Nodes.{IsPlanOf, node_of}
use Rattle.ds_report.proofs.Places.{keys_of_plan}
use Rattle.ds_report.proofs.printing.push_node.Goals as goal

pub push_host-requires : goal.push_host-requires
push_host-requires c =
    let d = c.args.doc.now in
    c.as_slice.ensures.value ∙ c.keys.ensures
    ∙ keys_of_plan d c.args.place c.in-Running.host (subst (λ (n : Node). IsPlanOf (host_plan (plan_of d) c.args.place) (node_of n)) c.in-Running.is c.requires)
