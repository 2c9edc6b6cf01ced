use Rattle.ds_inlet.proofs.Steady.{host_pieces}
use Rattle.ds_inlet.proofs.laws.pieces_make_no_difference.Goals as goal

pub returns : goal.returns
returns c = host_pieces
