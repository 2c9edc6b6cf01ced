use Rattle.ds_hosts.specs.Nodes.{node_of}
use Rattle.ds_hosts.proofs.Arrivals.{arrived_is, bytes_are, count_is, host_is, moves_is, others_are}
use Rattle.ds_hosts.proofs.node.Node.arrive.Goals as goal

pub returns-clause-ok : goal.returns-clause-ok
returns-clause-ok c = λ link stream later whole within. moves_is (node_of c.args.self.now) (node_of c.arrive_next.new.self) c.args.conn c.args.piece.now c.arrive_next.result c.arrive_next.ensures.becomes c.arrive_next.ensures.err
    c.arrive_next.ensures.still c.arrive_next.ensures.moved link stream later whole within

pub returns-clause-arrived : goal.returns-clause-arrived
returns-clause-arrived c = arrived_is (node_of c.args.self.now) (node_of c.arrive_next.new.self) c.args.conn c.args.piece.now c.arrive_next.result c.arrive_next.ensures.becomes c.arrive_next.ensures.err

pub returns-clause-host : goal.returns-clause-host
returns-clause-host c = host_is (node_of c.args.self.now) (node_of c.arrive_next.new.self) c.args.conn c.args.piece.now c.arrive_next.result c.arrive_next.ensures.becomes c.arrive_next.ensures.err

pub returns-clause-others : goal.returns-clause-others
returns-clause-others c = λ link place apart. others_are (node_of c.args.self.now) (node_of c.arrive_next.new.self) c.args.conn c.args.piece.now c.arrive_next.result c.arrive_next.ensures.becomes c.arrive_next.ensures.err link place apart

pub returns-clause-bytes : goal.returns-clause-bytes
returns-clause-bytes c = λ place apart. bytes_are (node_of c.args.self.now) (node_of c.arrive_next.new.self) c.args.conn c.args.piece.now c.arrive_next.result c.arrive_next.ensures.becomes c.arrive_next.ensures.err place apart

pub returns-clause-count : goal.returns-clause-count
returns-clause-count c = count_is (node_of c.args.self.now) (node_of c.arrive_next.new.self) c.args.conn c.args.piece.now c.arrive_next.result c.arrive_next.ensures.becomes c.arrive_next.ensures.err
