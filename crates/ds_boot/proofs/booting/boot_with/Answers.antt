use Rattle.std.proofs.Common.{map}
use Rattle.ds_hosts.specs.Nodes.{node_of}
use Rattle.ds_boot.proofs.Booted.{booted}
use Rattle.ds_boot.proofs.booting.boot_with.Goals as goal

pub returns-clause-hosts : goal.returns-clause-hosts
returns-clause-hosts c = (booted c.args.doc.now c.requires.document (map node_of c.in_ok-nodes.nodes.items) c.in_ok-nodes.ensures).hosts

pub returns-clause-nodes : goal.returns-clause-nodes
returns-clause-nodes c = (booted c.args.doc.now c.requires.document (map node_of c.in_ok-nodes.nodes.items) c.in_ok-nodes.ensures).nodes

pub returns-clause-conns : goal.returns-clause-conns
returns-clause-conns c = (booted c.args.doc.now c.requires.document (map node_of c.in_ok-nodes.nodes.items) c.in_ok-nodes.ensures).conns
