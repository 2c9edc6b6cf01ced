use Rattle.std.proofs.Common.{◌≡◌, ◌++◌, ◌∙◌, OnOk, List, ℕ, [], sym, ap, subst}
use Rattle.ds_model.specs.Plan.{host_plan}
use Rattle.ds_setup.specs.Plans.{plan_of}
use Rattle.ds_hosts.specs.declared.node.Node.{Node}
use Rattle.ds_hosts.specs.Nodes.{IsPlanOf, node_of}
use Rattle.ds_exporter.specs.PlainHosts.{plain_passed}
use Rattle.ds_report.specs.Printings.{printing_of, planned}
use Rattle.ds_report.specs.Texts.{route_text}
use Rattle.ds_report.proofs.Places.{keys_of_plan}
use Rattle.ds_report.proofs.Texts.{route_is}
use Rattle.ds_report.proofs.printing.push_route_to.Goals as goal

pub push_conn-requires : goal.push_conn-requires
push_conn-requires c =
    let d = c.args.doc.now in
    let host = c.args.route.now.host in
    c.as_slice.ensures.value ∙ c.keys.ensures
    ∙ keys_of_plan d host c.in-Running.host (subst (λ (n : Node). IsPlanOf (host_plan (plan_of d) host) (node_of n)) c.in-Running.is c.requires.plan)

pub returns-in-Running : goal.returns-in-Running
returns-in-Running c =
    let p = printing_of c.args.doc.now in
    let plan = planned c.args.doc.now in
    let e = c.in-Running.host in
    let k = c.conn_of-conn.result.now.conn in
    subst (λ (text : List ℕ). OnOk c.push_conn.result (c.push_conn.new.out.items ≡ c.args.out.now.items ++ text))
    (sym (route_is p plan c.args.number c.args.route.now e k c.conn_of-conn.ensures) ∙ ap (λ (n : Node). route_text p plan c.args.number c.args.route.now (node_of n)) (sym c.in-Running.is))
    (c.push_conn.ensures [] (plain_passed e.desk.here e.desk.desk.rows k.passed))
