use Rattle.std.proofs.Common.{◌≡◌, ◌++◌, drop, map}
use Rattle.ds_hosts.specs.Nodes.{node_of}
use Rattle.ds_report.specs.Printings.{printing_of, planned}
use Rattle.ds_report.specs.Texts.{nodes_text}
use Rattle.ds_report.proofs.printing.push_nodes.Given as goal

abbrev pub invariant-loop-place : goal.invariant-loop-place
invariant-loop-place l =
    l.initial.out.items ++ nodes_text (printing_of l.doc) (planned l.doc) 0 (map node_of l.nodes)
    ≡ l.out.items ++ nodes_text (printing_of l.doc) (planned l.doc) l.place (map node_of (drop l.place l.nodes))
