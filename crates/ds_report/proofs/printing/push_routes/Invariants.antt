use Rattle.std.proofs.Common.{◌≡◌, ◌++◌, drop, map}
use Rattle.ds_hosts.specs.Nodes.{node_of}
use Rattle.ds_report.specs.Printings.{printing_of, planned}
use Rattle.ds_report.specs.Texts.{conns_text}
use Rattle.ds_report.proofs.printing.push_routes.Given as goal

abbrev pub invariant-loop-number : goal.invariant-loop-number
invariant-loop-number l =
    l.initial.out.items ++ conns_text (printing_of l.doc) (planned l.doc) (map node_of l.nodes) 0 l.routes
    ≡ l.out.items ++ conns_text (printing_of l.doc) (planned l.doc) (map node_of l.nodes) l.number (drop l.number l.routes)
