use Rattle.ds_inlet.proofs.Accepting.{accepts_reads}
use Rattle.ds_inlet.proofs.conn.Conn.read.Goals as goal

pub returns-clause-accepts : goal.returns-clause-accepts
returns-clause-accepts c = accepts_reads c.args.self.now.conn c.read_on.result c.read_on.new.self.conn c.is_read_so_far.ensures c.is_admitted.ensures.lane c.is_admitted.ensures.offered c.requires.hand c.read_on.ensures.exact
