use Rattle.ds_turn.proofs.ConnPlain.{asks_lent}
use Rattle.ds_turn.proofs.conn.conn_turn.Goals as goal

pub returns-clause-asks : goal.returns-clause-asks
returns-clause-asks g c =
    asks_lent c.args.node.now c.args.conn.now.link c.one_turn.new.conn.link c.conn.result.now.conn c.conn-2.result.now.conn c.conn.ensures c.conn-2.ensures
    c.is_read_so_far.ensures c.is_admitted.ensures c.requires.leads c.in_ok-made.made c.in_ok-made.ensures.ok
