use Rattle.ds_inlet.proofs.Follows.{follows}
use Rattle.ds_inlet.proofs.laws.connections_read_the_stream.Goals as goal

pub returns : goal.returns
returns c = follows
